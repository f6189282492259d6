-- Demand 3: every run of few presses meets it.
-- Assumes nothing.
use Prim.Native.Nat.{ℕ, zero, suc, ◌<◌}
use mathlib.Core.Path.{◌≡◌, sym, ap, ◌∙◌}
use mathlib.Core.List.{List, []}
use native.Mathlib.Omega.{arith}
use lib.ListN.{get_or, take}
use lib.Seq.{ext_get_or}
use Rattle.logic.proofs.Cases.{case_lt}
use Rattle.peer.specs.Seats.{seats}
use Rattle.params.specs.declared.SessionParams.{SessionParams}
use Rattle.rows.specs.Rows.{padded, step_digest}
use Rattle.agreement.specs.World.{Call, stepped, World, run}
use Rattle.agreement.specs.Demand.{Valid, Few, Said, Demand3}
use Rattle.agreement.proofs.Facts.{Log, AllPressed, Folded, Once, WorldOk}
use Rattle.agreement.proofs.Run.{run_ok}

-- a tick has one set of rows, since a seat has one press for it, and so the presses have one digest
module _ (p : SessionParams) {log : Log} (once : Once log) where
  rows_one : {t : ℕ} {rows others : List (List ℕ)} → AllPressed p log t rows → AllPressed p log t others → rows ≡ others
  rows_one {t} {rows} {others} x y =
      ext_get_or [] rows others (x.size ∙ sym y.size)
      (λ k l.
      let low : k < seats = omega (arith, x.size) in
      case_lt k p.count
      (λ m. x.pads k m ∙ ap padded (once.press k t _ _ (x.each k m) (y.each k m)) ∙ sym (y.pads k m))
      (λ m. x.none k low m ∙ sym (y.none k low m)))

  folded_one : (n a b : ℕ) → Folded p log n a → Folded p log n b → a ≡ b
  folded_one zero a b x y = x ∙ sym y
  folded_one (suc n) a b x y =
      x.is ∙ ap (λ d. step_digest d n p.count p.width x.rows)
      (folded_one n x.before y.before x.fold y.fold)
      ∙ ap (step_digest y.before n p.count p.width) (rows_one x.all y.all) ∙ sym y.is

meets : (p : SessionParams) (w : World) → WorldOk p w → Demand3 p w
meets p w h = record {
  steps = λ i j t rows others a b x y.
      let one = h.steps (stepped i t rows a) x in
      let two = h.steps (stepped j t others b) y in
      record {
        bytes = rows_one p h.once one.0 two.0;
        digests = folded_one p h.once (suc t) a b one.1 two.1;
        submitted = one.0.each;
        no_other = λ k v l z. h.once.press k t v (take p.width (get_or rows k [])) z (one.0.each k l);
      };
  desynced = λ i t l e. (h.sessions i l).base.out t e;
  holds = λ i t l e. (h.sessions i l).agree e t;
}

pub demand3 : (p : SessionParams) → Valid p → (cs : List Call) → Few p (run p cs).log → Demand3 p (run p cs)
demand3 p valid cs few = meets p (run p cs) (run_ok p valid cs few)

-- a seat commits once for a tick: the two commits of `Differ` are two seats' and not one's, who changed its mind
pub commits_once : (p : SessionParams) → Valid p → (cs : List Call) → Few p (run p cs).log → (k tick one other : ℕ)
    → Said (run p cs).log k tick one → Said (run p cs).log k tick other → one ≡ other
commits_once p valid cs few = (run_ok p valid cs few).once.commit
