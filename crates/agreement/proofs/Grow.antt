-- The log grows: what was true of a session, a message or an event stays true.
-- Assumes nothing.
use Prim.Native.Nat.{ℕ, zero, suc}
use mathlib.Core.Path.{◌≡◌, refl, sym, subst, ◌∙◌}
use mathlib.Core.Logic.{◌≢◌}
use mathlib.Core.Bool.{true≢false}
use mathlib.Core.List.Memᴰ
use mathlib.Core.List.{List, [], ◌∷◌, Memᴰ}
use borrow.Author.Tests.{ne_eqb}
use Rattle.std.specs.Prelude.{None, Option, Some}
use Rattle.logic.proofs.Cases.{if_false}
use Rattle.params.specs.declared.SessionParams.{SessionParams}
use Rattle.wire.specs.declared.Body.{Body}
use Rattle.wire.specs.declared.Body.TheVariants as Body'
use Rattle.window.specs.declared.Window.{Window}
use Rattle.fingerprint.specs.declared.Fingerprints.{Fingerprints}
use Rattle.fingerprint.specs.declared.Fingerprint.{Fingerprint}
use Rattle.session.specs.declared.Outstanding.{Outstanding}
use Rattle.session.specs.declared.Outcome.{Outcome}
use Rattle.session.specs.declared.Session.{Session}
use Rattle.agreement.specs.World.{Event, pressed, stepped, committed}
use Rattle.agreement.specs.Demand.{Pressed, Said, presses, Differ}
use Rattle.agreement.proofs.Facts.{Log, AllPressed, Folded, RingFacts, FoldFacts, PrintFacts, SaidFacts}
use Rattle.agreement.proofs.Facts.{OutFacts, SessOk, BodyOk, EventOk, Unpressed, Same, OnceBy, Once, TurnOk}

-- what holds of the one element of a list
pub single : {A : Type 0} (Q : A → Type 0) {a : A} → Q a → (e : A) → Memᴰ e (a ∷ []) → Q e
single Q {a} h e x = subst Q (sym (Memᴰ.eq_of_singleton x)) h

abbrev pub Sub : Log → Log → Type 0
Sub log longer = (e : Event) → Memᴰ e log → Memᴰ e longer

module _ {log longer : Log} (up : Sub log longer) where
  all_up : {p : SessionParams} {tick : ℕ} {rows : List (List ℕ)} → AllPressed p log tick rows
      → AllPressed p longer tick rows
  all_up h = record { size = h.size; each = λ k l. up _ (h.each k l); pads = h.pads; none = h.none }

  pub folded_up : (p : SessionParams) (n a : ℕ) → Folded p log n a → Folded p longer n a
  folded_up p zero a h = h
  folded_up p (suc n) a h = record {
    before = h.before;
    rows = h.rows;
    fold = folded_up p n h.before h.fold;
    all = all_up h.all;
    is = h.is;
  }

  pub fold_up : (p : SessionParams) (pending : ℕ) (o : Option Outstanding) (a : ℕ) → FoldFacts p log pending o a
      → FoldFacts p longer pending o a
  fold_up p pending None a h = folded_up p pending a h
  fold_up p pending (Some out) a h = (h.0, folded_up p (suc pending) a h.1)

  differ_up : {p : SessionParams} {i tick : ℕ} → Differ p log i tick → Differ p longer i tick
  differ_up d =
      record {
        seat = d.seat;
        within = d.within;
        another = d.another;
        ours = d.ours;
        theirs = d.theirs;
        we = up _ d.we;
        they = up _ d.they;
        apart = d.apart;
      }

  pub ring_up : {p : SessionParams} {w : Window} → RingFacts p log w → RingFacts p longer w
  ring_up h = record { ok = h.ok; each = λ k t v l x. up _ (h.each k t v l x) }

  pub prints_up : {p : SessionParams} {i : ℕ} {prints : Fingerprints} {owed : Option Fingerprint}
      → PrintFacts p log i prints owed → PrintFacts p longer i prints owed
  prints_up h = record {
    size = h.size;
    own = λ t f x. up _ (h.own t f x);
    other = λ k t f l x. up _ (h.other k t f l x);
    owes = λ f x. up _ (h.owes f x);
  }

  pub out_up : {p : SessionParams} {i : ℕ} {o : Option Outcome} → OutFacts p log i o → OutFacts p longer i o
  out_up h = λ t x. differ_up (h t x)

  pub body_up : (k : ℕ) (b : Body) (run : List ℕ) → BodyOk log k b run → BodyOk longer k b run
  body_up k (Body'.Hello b) run h = tt
  body_up k (Body'.Inputs b) run h = λ j l. up _ (h j l)
  body_up k (Body'.Digest d) run h = up _ h
  body_up k (Body'.Bye b) run h = tt
  body_up k (Body'.Other kind) run h = tt

  pub event_up : (p : SessionParams) (e : Event) → EventOk p log e → EventOk p longer e
  event_up p (pressed k t b) h = tt
  event_up p (stepped k t rows a) h = (all_up h.0, folded_up p (suc t) a h.1)
  event_up p (committed k t d) h = tt

-- with no new press of its seat, and its commits still below its pending tick
pub sess_up : {p : SessionParams} {log longer : Log} {i : ℕ} {s : Session} → Unpressed i log longer
    → SaidFacts longer i s.head.play.pending
    → SessOk p log i s → SessOk p longer i s
sess_up {p} {log} {longer} {i} {s} g said h =
    let up = g.keep in
    let b = h.base in
    record {
      base =
          record {
            par = b.par;
            ring = ring_up up b.ring;
            next = record { below = λ t v x. b.next.below t v (g.back t v x); many = g.count ∙ b.next.many };
            fold = fold_up up p s.head.play.pending s.head.play.step s.head.play.digest b.fold;
            prints = prints_up up b.prints;
            said = said;
            out = out_up up b.out;
          };
      agree = h.agree;
    }

pub sess_same : {p : SessionParams} {log longer : Log} {i : ℕ} {s : Session} → Same i log longer → SessOk p log i s
    → SessOk p longer i s
sess_same g h = sess_up g.unpressed (λ t d x. h.base.said t d (g.unsaid t d x)) h

-- ---- what an event adds

pub same_refl : (j : ℕ) (log : Log) → Same j log log
same_refl j log =
    record { unpressed = record { keep = λ e x. x; back = λ t b x. x; count = refl }; unsaid = λ t d x. x }

tail_of : {e f : Event} {log : Log} → e ≢ f → Memᴰ e (f ∷ log) → Memᴰ e log
tail_of n (Memᴰ.head q) = absurd (n q)
tail_of n (Memᴰ.tail m) = m

pub same_stepped : (j : ℕ) (log : Log) (k t a : ℕ) (rows : List (List ℕ)) → Same j log (stepped k t rows a ∷ log)
unfolding presses
same_stepped j log k t a rows = record {
  unpressed = record { keep = λ e x. Memᴰ.tail x; back = λ _ _ x. tail_of (λ e. true≢false (cc)) x; count = refl };
  unsaid = λ _ _ x. tail_of (λ e. true≢false (cc)) x;
}

pub unpressed_committed : (j : ℕ) (log : Log) (k t d : ℕ) → Unpressed j log (committed k t d ∷ log)
unfolding presses
unpressed_committed j log k t d =
    record { keep = λ e x. Memᴰ.tail x; back = λ _ _ x. tail_of (λ e. true≢false (cc)) x; count = refl }

pub same_committed : (i j : ℕ) (log : Log) (t d : ℕ) → j ≢ i → Same j log (committed i t d ∷ log)
same_committed i j log t d n =
    record { unpressed = unpressed_committed j log i t d; unsaid = λ _ _ x. tail_of (λ e. n (cc)) x }

pub same_pressed : (i j : ℕ) (log : Log) (t : ℕ) (b : List ℕ) → j ≢ i → Same j log (pressed i t b ∷ log)
unfolding presses
same_pressed i j log t b n = record {
  unpressed =
      record {
        keep = λ e x. Memᴰ.tail x;
        back = λ t' b' x. tail_of (λ e. n (cc)) x;
        count = if_false _ _ (ne_eqb i j (λ e. n (sym e)));
      };
  unsaid = λ _ _ x. tail_of (λ e. true≢false (cc)) x;
}

-- ---- once for a seat and a tick

module _ {T : Type 0} (made : (seat tick : ℕ) → T → Event) where
  -- an event of another kind leaves it so
  once_past : {e : Event} {log : Log} → ((k t : ℕ) (v : T) → made k t v ≢ e) → OnceBy made log → OnceBy made (e ∷ log)
  once_past n h k t b c x y = h k t b c (tail_of (n k t b) x) (tail_of (n k t c) y)

  -- and so does one that is the first for its seat and tick; what an event is made of can be read off it
  module _ (apart : (k t i u : ℕ) (v w : T) → made k t v ≡ made i u w → (k ≡ i) × (t ≡ u) × (v ≡ w)) where
    once_first : {log : Log} (i u : ℕ) (w : T) → ((v : T) → Memᴰ (made i u v) log → ⊥) → OnceBy made log
        → OnceBy made (made i u w ∷ log)
    once_first i u w new h k t b c (Memᴰ.head x) (Memᴰ.head y) =
        (apart k t i u b w x).2 ∙ sym (apart k t i u c w y).2
    once_first i u w new h k t b c (Memᴰ.head x) (Memᴰ.tail y) =
        let q = apart k t i u b w x in absurd (new c (rw (q.0, q.1) at y))
    once_first i u w new h k t b c (Memᴰ.tail x) (Memᴰ.head y) =
        let q = apart k t i u c w y in absurd (new b (rw (q.0, q.1) at x))
    once_first i u w new h k t b c (Memᴰ.tail x) (Memᴰ.tail y) = h k t b c x y

pub once-stepped : {log : Log} (i t a : ℕ) (rows : List (List ℕ)) → Once log → Once (stepped i t rows a ∷ log)
once-stepped i t a rows h = record {
  press = once_past pressed (λ _ _ _ e. true≢false (cc)) h.press;
  commit = once_past committed (λ _ _ _ e. true≢false (cc)) h.commit;
}

pub once-pressed : {log : Log} (i t : ℕ) (b : List ℕ) → ((v : List ℕ) → Pressed log i t v → ⊥) → Once log
    → Once (pressed i t b ∷ log)
once-pressed i t b new h = record {
  press = once_first pressed (λ _ _ _ _ _ _ e. (cc, cc, cc)) i t b new h.press;
  commit = once_past committed (λ _ _ _ e. true≢false (cc)) h.commit;
}

pub once-committed : {log : Log} (i t d : ℕ) → ((state : ℕ) → Said log i t state → ⊥) → Once log
    → Once (committed i t d ∷ log)
once-committed i t d new h = record {
  press = once_past pressed (λ _ _ _ e. true≢false (cc)) h.press;
  commit = once_first committed (λ _ _ _ _ _ _ e. (cc, cc, cc)) i t d new h.commit;
}

-- a turn that shows nothing and sends nothing
pub quiet_ok : {p : SessionParams} {log : Log} {i : ℕ} {s : Session} → SessOk p log i s
    → TurnOk p log i (record { session = s; sends = []; shows = [] })
quiet_ok {p} {log} {i} h = record {
  session = h;
  sends = λ m x. elim x [ ];
  shows = λ e x. elim x [ ];
  once = λ o. o;
  others = λ j _. same_refl j log;
  keep = λ e x. x;
}
