-- The cells of fingerprints: where each print is kept, what is found after one is stored, and what judging says of what
-- is found. Assumes nothing.
use Prim.Native.Nat.{ℕ, ◌<◌, ◌≤◌}
use Rattle.std.specs.Prelude.{Option, None, Some}
use mathlib.Core.Path.{◌≡◌, refl, sym}
use mathlib.Core.Logic.{◌≢◌}
use mathlib.Core.Bool.{true, false, not, true≢false}
use native.Mathlib.Omega.{arith}
use lib.ListN.{length, length-set, get_or-replicate, get_or-eq_default}
use lib.Seq.{set_out, get_or-set_same, get_or-set_other}
use borrow.Author.Tests.{eq-eqb, eqb-true, eqb-false, not-true, not-false}
use Rattle.logic.proofs.Cases.{by_test, case_eq, case_lt, if_true, if_false, or_neither}
use Rattle.peer.specs.Seats.{seats, has}
use Rattle.peer.specs.Cells.{history, digest_slot_of}
use Rattle.peer.proofs.Loops.{every_at, every_fails}
use Rattle.fingerprint.specs.declared.Fingerprint.{Fingerprint}
use Rattle.fingerprint.specs.declared.Fingerprints.{Fingerprints}
use Rattle.fingerprint.specs.Cells.{cells, own_cell, remote_cell, no_prints, cell_at, stored_at, own}
use Rattle.fingerprint.specs.Cells.{remote, with_own, with_remote, of_tick, own_for, remote_for}
use Rattle.fingerprint.specs.Judging.{agrees, all_agree, parted_by, parted}

-- ---- which cell

pub own_cell_lt : (t : ℕ) → own_cell t < history
unfolding own_cell
own_cell_lt t = omega arith

pub remote_cell_lt : (k t : ℕ) → k < seats → remote_cell k t < cells
unfolding remote_cell
remote_cell_lt k t h = omega (arith, own_cell_lt t)

-- one's own cells and a remote's never meet
pub own-remote_apart : (t k u : ℕ) → own_cell t ≢ remote_cell k u
unfolding remote_cell
own-remote_apart t k u e = omega (arith, own_cell_lt t)

-- remote cells meet only for one seat, where one's own do
pub remote-cells_meet : (j t k u : ℕ) → remote_cell j t ≡ remote_cell k u → (j ≡ k) × (own_cell t ≡ own_cell u)
unfolding remote_cell
remote-cells_meet j t k u e = (omega (arith, own_cell_lt t, own_cell_lt u), omega (arith, own_cell_lt t, own_cell_lt u))

-- and these only at ticks that are equal modulo 16
pub own-cells_meet : (t u : ℕ) → own_cell t ≡ own_cell u → digest_slot_of t ≡ digest_slot_of u
unfolding own_cell
own-cells_meet t u e = e

-- ---- the lists are as long as there are cells, as those of every real record are

pub record Sized (p : Fingerprints) : Type 0 where
  pub held : length p.held ≡ cells
  pub ticks : length p.ticks ≡ cells
  pub states : length p.states ≡ cells
  pub inputs : length p.inputs ≡ cells

pub new_sized : Sized no_prints
unfolding no_prints
new_sized = record { held = refl; ticks = refl; states = refl; inputs = refl }

pub stored_sized : (p : Fingerprints) (c : ℕ) (f : Fingerprint) → Sized p → Sized (stored_at p c f)
unfolding stored_at
stored_sized p c f h = record {
  held = simp length-set h.held;
  ticks = simp length-set h.ticks;
  states = simp length-set h.states;
  inputs = simp length-set h.inputs;
}

pub with_own_sized : (p : Fingerprints) (f : Fingerprint) → Sized p → Sized (with_own p f)
unfolding with_own
with_own_sized p f h = stored_sized p (own_cell f.tick) f h

pub with_remote_sized : (p : Fingerprints) (k : ℕ) (f : Fingerprint) → Sized p → Sized (with_remote p k f)
unfolding with_remote
with_remote_sized p k f h = stored_sized p (remote_cell k f.tick) f h

-- ---- a cell after a store

-- there is nothing past the end
pub cell_at_beyond : (p : Fingerprints) (c : ℕ) → Sized p → cells ≤ c → cell_at p c ≡ None
unfolding cell_at
cell_at_beyond p c h l = if_false _ _ (get_or-eq_default p.held false (omega arith))

pub stored_beyond : (p : Fingerprints) (c : ℕ) (f : Fingerprint) → Sized p → cells ≤ c → stored_at p c f ≡ p
unfolding stored_at
stored_beyond p c f h l =
    rw (
      set_out p.held c true (omega arith),
      set_out p.ticks c f.tick (omega arith),
      set_out p.states c f.state (omega arith),
      set_out p.inputs c f.input (omega arith),
    )

pub cell_at_stored_same : (p : Fingerprints) (c : ℕ) (f : Fingerprint) → Sized p → c < cells
    → cell_at (stored_at p c f) c ≡ Some f
unfolding cell_at stored_at
cell_at_stored_same p c f h l =
    rw (
      get_or-set_same p.held c true false (omega arith),
      get_or-set_same p.ticks c f.tick 0 (omega arith),
      get_or-set_same p.states c f.state 0 (omega arith),
      get_or-set_same p.inputs c f.input 0 (omega arith),
    )
    (if_true _ _ refl)

pub cell_at_stored_other : (p : Fingerprints) (c : ℕ) (f : Fingerprint) (i : ℕ) → i ≢ c
    → cell_at (stored_at p c f) i ≡ cell_at p i
unfolding cell_at stored_at
cell_at_stored_other p c f i n = simp (get_or-set_other, n)

-- a seat above the last has no cell
pub remote_beyond : (p : Fingerprints) (k t : ℕ) → Sized p → seats ≤ k → remote p k t ≡ None
unfolding remote remote_cell
remote_beyond p k t h l = cell_at_beyond p (remote_cell k t) h (omega arith)

pub with_remote_beyond : (p : Fingerprints) (k : ℕ) (f : Fingerprint) → Sized p → seats ≤ k → with_remote p k f ≡ p
unfolding with_remote remote_cell
with_remote_beyond p k f h l = stored_beyond p (remote_cell k f.tick) f h (omega arith)

-- no cell of a new session holds a print
pub cell_at-new : (c : ℕ) → cell_at no_prints c ≡ None
unfolding cell_at no_prints
cell_at-new c =
    case_lt c cells (λ low. if_false _ _ (get_or-replicate cells c false false low))
    (λ past. cell_at_beyond no_prints c new_sized past)

-- ---- the print for a tick after a store

-- what a cell gives for a tick is the cell's own, and has that tick
pub of_tick_holds : (t : ℕ) (c : Option Fingerprint) (q : Fingerprint) → of_tick t c ≡ Some q
    → (c ≡ Some q) × (q.tick ≡ t)
unfolding of_tick
of_tick_holds t None q e = absurd (true≢false (cc))
of_tick_holds t (Some f) q e = go e
  where
    go : of_tick t (Some f) ≡ Some q → (Some f ≡ Some q) × (q.tick ≡ t)
    go =
        by_test (λ (o : Option Fingerprint). o ≡ Some q → (Some f ≡ Some q) × (q.tick ≡ t))
        (λ h e. (e, cc (eqb-true f.tick t h))) (λ h e. absurd (true≢false (cc)))

pub of_tick_same : (f : Fingerprint) → of_tick f.tick (Some f) ≡ Some f
unfolding of_tick
of_tick_same f = if_true _ _ (eq-eqb f.tick f.tick refl)

-- what was stored last is found
pub own_for-fresh : (p : Fingerprints) (f : Fingerprint) → Sized p → own_for (with_own p f) f.tick ≡ Some f
unfolding own_for own with_own
own_for-fresh p f h =
    rw (cell_at_stored_same p (own_cell f.tick) f h (omega (arith, own_cell_lt f.tick))) (of_tick_same f)

pub remote_for-fresh : (p : Fingerprints) (k : ℕ) (f : Fingerprint) → Sized p → k < seats
    → remote_for (with_remote p k f) k f.tick ≡ Some f
unfolding remote_for remote with_remote
remote_for-fresh p k f h l =
    rw (cell_at_stored_same p (remote_cell k f.tick) f h (remote_cell_lt k f.tick l)) (of_tick_same f)

-- in a new session none is
pub own_for-new : (t : ℕ) → own_for no_prints t ≡ None
unfolding own_for own of_tick
own_for-new t = rw (cell_at-new (own_cell t))

pub remote_for-new : (k t : ℕ) → remote_for no_prints k t ≡ None
unfolding remote_for remote of_tick
remote_for-new k t = rw (cell_at-new (remote_cell k t))

-- a print q that is found once f is stored: f itself, where `Same` says so, or one that was found before
pub data Stored (Same : Type 0) (f q : Fingerprint) (before : Option Fingerprint) : Type 0 where
  fresh : Same → q ≡ f → Stored Same f q before
  older : before ≡ Some q → Stored Same f q before

stored_map : {A B : Type 0} {f q : Fingerprint} {before : Option Fingerprint} → (A → B) → Stored A f q before
    → Stored B f q before
stored_map g (fresh s e) = fresh (g s) e
stored_map g (older e) = older e

stored_at_lem : (p : Fingerprints) (c : ℕ) (f : Fingerprint) (i t : ℕ) (q : Fingerprint) → Sized p
    → of_tick t (cell_at (stored_at p c f) i) ≡ Some q → Stored ((i ≡ c) × (t ≡ f.tick)) f q (of_tick t (cell_at p i))
stored_at_lem p c f i t q h e =
    case_lt c cells
    (λ low.
    case_eq i c
    (λ s.
    let g : cell_at (stored_at p c f) i ≡ Some f = rw s (cell_at_stored_same p c f h low) in
    let o = of_tick_holds t (cell_at (stored_at p c f) i) q e in
    fresh (s, cc) (cc))
    (λ s. older (rw (cell_at_stored_other p c f i s) at e)))
    (λ past. older (rw (stored_beyond p c f h past) at e))

pub own_for_stored : (p : Fingerprints) (f : Fingerprint) (t : ℕ) (q : Fingerprint) → Sized p
    → own_for (with_own p f) t ≡ Some q → Stored (t ≡ f.tick) f q (own_for p t)
unfolding own_for own with_own
own_for_stored p f t q h e = stored_map (λ s. s.1) (stored_at_lem p (own_cell f.tick) f (own_cell t) t q h e)

pub remote_for_stored : (p : Fingerprints) (k : ℕ) (f : Fingerprint) (j t : ℕ) (q : Fingerprint) → Sized p
    → remote_for (with_remote p k f) j t ≡ Some q → Stored ((j ≡ k) × (t ≡ f.tick)) f q (remote_for p j t)
unfolding remote_for remote with_remote
remote_for_stored p k f j t q h e =
    stored_map (λ s. ((remote-cells_meet j t k f.tick s.0).0, s.1))
    (stored_at_lem p (remote_cell k f.tick) f (remote_cell j t) t q h e)

-- a store of one's own leaves the remotes' prints, and a store of a remote's one's own
pub remote_for-own : (p : Fingerprints) (f : Fingerprint) (k t : ℕ) → remote_for (with_own p f) k t ≡ remote_for p k t
unfolding remote_for remote with_own
remote_for-own p f k t =
    rw (cell_at_stored_other p (own_cell f.tick) f (remote_cell k t) (λ e. own-remote_apart f.tick k t (sym e)))

pub own_for-remote : (p : Fingerprints) (k : ℕ) (f : Fingerprint) (t : ℕ) → own_for (with_remote p k f) t ≡ own_for p t
unfolding own_for own with_remote
own_for-remote p k f t =
    rw (cell_at_stored_other p (remote_cell k f.tick) f (own_cell t) (own-remote_apart t k f.tick))

-- ---- judging

denied : (state : ℕ) (c : Option Fingerprint) → agrees state c ≡ false
    → record { print : Fingerprint; is : c ≡ Some print; apart : print.state ≢ state }
unfolding agrees
denied state None e = absurd (true≢false e)
denied state (Some f) e = record { print = f; is = refl; apart = eqb-false f.state state e }

module _ (p : Fingerprints) (remotes tick : ℕ) where
  -- where no state parts, each remote's print for the tick has one's own state
  pub parted_false : parted p remotes tick ≡ false → (mine : Fingerprint) → own_for p tick ≡ Some mine → (k : ℕ)
      → k < seats → has remotes k ≡ true
      → (theirs : Fingerprint) → remote_for p k tick ≡ Some theirs → theirs.state ≡ mine.state
  unfolding parted parted_by all_agree agrees
  parted_false e mine m k l h theirs t =
      eqb-true theirs.state mine.state (rw (h, t) at (every_at seats _ (not-false _ (rw m at e)) k l))

  -- where they part, one's own print for the tick and a remote's have other states
  pub record Parted : Type 0 where
    pub mine : Fingerprint
    pub own : own_for p tick ≡ Some mine
    pub seat : ℕ
    pub low : seat < seats
    pub remote : has remotes seat ≡ true
    pub theirs : Fingerprint
    pub other : remote_for p seat tick ≡ Some theirs
    pub apart : theirs.state ≢ mine.state

  parted_by_lem : (c : Option Fingerprint) → own_for p tick ≡ c → parted_by p remotes tick c ≡ true → Parted
  unfolding parted_by all_agree
  parted_by_lem None m e = absurd (true≢false (cc))
  parted_by_lem (Some f) m e =
      let r = every_fails seats _ (not-true _ e) in
      let b = or_neither (not (has remotes r.seat)) _ r.is in
      let d = denied f.state (remote_for p r.seat tick) b.1 in
      record {
        mine = f;
        own = m;
        seat = r.seat;
        low = r.low;
        remote = not-false (has remotes r.seat) b.0;
        theirs = d.print;
        other = d.is;
        apart = d.apart;
      }

  pub parted_true : parted p remotes tick ≡ true → Parted
  unfolding parted
  parted_true e = parted_by_lem (own_for p tick) refl e
