-- What a record's parameters are where they pass 11 to 16, and who is in the roster.
-- Assumes nothing.
use mathlib.Core.Path.{◌≡◌, refl, ◌∙◌}
use mathlib.Core.Bool.{true, false, not, ◌&&◌, true≢false}
use Rattle.std.specs.Prelude.{Result, Ok, Err}
use Rattle.std.specs.Result.{is_err}
use Prim.Native.Nat.{ℕ, ◌≤◌, ◌<◌}
use lib.Dec.{eqb, ltb}
use borrow.Author.Tests.{ltb-true, ltb-false, eqb-false, not-false}
use Rattle.logic.specs.Range.{outside}
use Rattle.logic.proofs.Cases.{by_test, or_neither}
use Rattle.peer.specs.Seats.{seats, has}
use Rattle.peer.proofs.Laws.{has_first, has-removing}
use Rattle.params.specs.declared.SessionParams.{SessionParams}
use Rattle.params.specs.declared.ParamsError.{ParamsError}
use Rattle.params.specs.declared.ParamsError.TheVariants.{PeerCount, LocalNotInRoster, InputBytes}
use Rattle.params.specs.declared.ParamsError.TheVariants.{InputDelay, DigestPeriodZero, SessionZero}
use Rattle.params.specs.Params.{min_peers, max_width, max_delay, validity, validity_no, bad_state, roster_of, remotes_of}

-- within both ends
pub record Within (low high n : ℕ) : Type 0 where
  pub least : low ≤ n
  pub greatest : n ≤ high

pub inside : (low high n : ℕ) → outside low high n ≡ false → Within low high n
unfolding outside
inside low high n e =
    let both = or_neither (ltb n low) (ltb high n) e in
    record { least = ltb-false n low both.0; greatest = ltb-false high n both.1 }

-- parameters that pass 11 to 16
pub record Sound (p : SessionParams) : Type 0 where
  pub count : Within min_peers seats p.count
  pub local : p.local < p.count
  pub width : Within 1 max_width p.width
  pub delay : p.delay ≤ max_delay
  pub period : p.period ≡ 0 → ⊥
  pub session : p.session ≡ 0 → ⊥

-- every refusal has a number
pub refused_or_not : (v : Result (Unit {0}) ParamsError) → is_err v ≡ not (eqb (validity_no v) 0)
refused_or_not (Ok x) = refl
refused_or_not (Err (PeerCount saw floor ceiling)) = refl
refused_or_not (Err (LocalNotInRoster local count)) = refl
refused_or_not (Err (InputBytes saw ceiling)) = refl
refused_or_not (Err (InputDelay saw limit)) = refl
refused_or_not (Err DigestPeriodZero) = refl
refused_or_not (Err SessionZero) = refl

record Passes (p : SessionParams) (v : Result (Unit {0}) ParamsError) : Type 0 where
  so : not (eqb (validity_no v) 0) ≡ false → Sound p

refused : {p : SessionParams} {v : Result (Unit {0}) ParamsError} → not (eqb (validity_no v) 0) ≡ true → Passes p v
refused e = record { so = λ f. absurd (true≢false (cc)) }

passes : (p : SessionParams) → Passes p (validity p)
unfolding validity
passes p =
    by_test (Passes p) (λ _. refused refl)
    (λ count. by_test (Passes p) (λ _. refused refl)
    (λ local. by_test (Passes p) (λ _. refused refl)
    (λ width. by_test (Passes p) (λ _. refused refl)
    (λ delay. by_test (Passes p) (λ _. refused refl)
    (λ period. by_test (Passes p) (λ _. refused refl)
    (λ session. record {
      so = λ _. record {
        count = inside min_peers seats p.count count;
        local = ltb-true p.local p.count (not-false (ltb p.local p.count) local);
        width = inside 1 max_width p.width width;
        delay = ltb-false max_delay p.delay delay;
        period = eqb-false p.period 0 period;
        session = eqb-false p.session 0 session;
      };
    }))))))

-- a record that is not refused with 20 has them
pub sound : (p : SessionParams) → bad_state p ≡ false → Sound p
unfolding bad_state
sound p e = (passes p).so e

-- a seat is in the roster where it is below the count, and it is a remote where it is not the local one besides
pub has_roster : (p : SessionParams) (k : ℕ) → k < seats → has (roster_of p) k ≡ ltb k p.count
unfolding roster_of
has_roster p k l = has_first seats p.count k l

pub has_remotes : (p : SessionParams) (k : ℕ) → k < seats
    → has (remotes_of p) k ≡ ltb k p.count && not (eqb k p.local)
unfolding remotes_of
has_remotes p k l = has-removing seats (roster_of p) p.local k l ∙ rw (has_roster p k)
