-- `last_agreed` is the highest of one's own ticks that can be answered: it is one of them, and none is higher.
-- Assumes nothing.
use Prim.Native.Nat.{ℕ, zero, suc, ◌<◌, ◌≤◌}
use Rattle.std.specs.Prelude.{Option, None, Some}
use Rattle.std.specs.Ordering.{nat_cmp, ord_max}
use Rattle.std.specs.Option.{option_cmp}
use Rattle.std.proofs.Common.{rules}
use mathlib.Core.Path.{◌≡◌, refl}
use mathlib.Core.Logic.{◌⊎◌, inl, inr, ⊎_elim}
use mathlib.Core.Bool.{true, true≢false}
use native.Mathlib.Omega.{arith}
use lib.Dec.{ltb}
use borrow.Author.Tests.{ltb-true, ltb-false, lt-ltb, not-false}
use Rattle.logic.specs.Test.{when◌then◌else◌}
use Rattle.logic.proofs.Cases.{by_test, case_eq}
use Rattle.peer.specs.Cells.{history}
use Rattle.fingerprint.specs.declared.Fingerprint.{Fingerprint}
use Rattle.fingerprint.specs.declared.Fingerprints.{Fingerprints}
use Rattle.fingerprint.specs.Cells.{cell_at}
use Rattle.fingerprint.specs.Judging.{all_agree}
use Rattle.fingerprint.specs.LastAgreed.{offer, higher, agreed_in, last_agreed}

-- the higher of two is the greater by the order of options, in which `None` is the least
pub higher-max : (a b : Option ℕ) → higher a b ≡ ord_max (option_cmp nat_cmp) a b
unfolding higher when◌then◌else◌
higher-max None None = refl
higher-max None (Some b) = refl
higher-max (Some a) None = refl
higher-max (Some a) (Some b) = search rules

-- the answer is a tick, and at least u
pub record Reaches (u : ℕ) (a : Option ℕ) : Type 0 where
  pub tick : ℕ
  pub is : a ≡ Some tick
  pub least : u ≤ tick

-- the higher of two is one of them, and reaches both
either : (a b : Option ℕ) (t : ℕ) → higher a b ≡ Some t → (a ≡ Some t) ⊎ (b ≡ Some t)
unfolding higher
either None b t e = inr e
either (Some a) None t e = inl e
either (Some a) (Some b) t e =
    by_test (λ (r : Option ℕ). r ≡ Some t → (Some a ≡ Some t) ⊎ (Some b ≡ Some t)) (λ _ e. inr e) (λ _ e. inl e) e

reaches_left : (u : ℕ) (a b : Option ℕ) → Reaches u a → Reaches u (higher a b)
unfolding higher
reaches_left u None b r = absurd (true≢false (cc))
reaches_left u (Some a) None r = r
reaches_left u (Some a) (Some b) r =
    let same : a ≡ r.tick = cc in
    by_test (Reaches u) (λ l. record { tick = b; is = refl; least = omega (arith, r.least, ltb-true a b l) }) (λ _. r)

reaches_right : (u : ℕ) (a b : Option ℕ) → Reaches u b → Reaches u (higher a b)
unfolding higher
reaches_right u None b r = r
reaches_right u (Some a) None r = absurd (true≢false (cc))
reaches_right u (Some a) (Some b) r =
    let same : b ≡ r.tick = cc in
    by_test (Reaches u) (λ _. r) (λ l. record { tick = a; is = refl; least = omega (arith, r.least, ltb-false a b l) })

module _ (p : Fingerprints) (remotes tick : ℕ) where
  -- one's own print can be answered: it is below the tick, and no held remote print denies it
  pub record Agreed (f : Fingerprint) : Type 0 where
    pub below : f.tick < tick
    pub undenied : all_agree p remotes f.tick f.state ≡ true

  -- the cell holds such a print, of tick t
  pub record Offered (c : Option Fingerprint) (t : ℕ) : Type 0 where
    pub mine : Fingerprint
    pub is : c ≡ Some mine
    pub at : mine.tick ≡ t
    pub agreed : Agreed mine

  offers : (f : Fingerprint) → Agreed f → offer p remotes tick (Some f) ≡ Some f.tick
  unfolding offer when◌then◌else◌
  offers f a = rw (lt-ltb f.tick tick a.below, a.undenied)

  offered : (c : Option Fingerprint) (t : ℕ) → offer p remotes tick c ≡ Some t → Offered c t
  unfolding offer
  offered None t e = absurd (true≢false (cc))
  offered (Some f) t e =
      by_test (λ (r : Option ℕ). r ≡ Some t → Offered (Some f) t) (λ _ e. absurd (true≢false (cc)))
      (λ low.
      by_test (λ (r : Option ℕ). r ≡ Some t → Offered (Some f) t)
      (λ yes e. record {
        mine = f;
        is = refl;
        at = cc;
        agreed = record { below = ltb-true f.tick tick (not-false (ltb f.tick tick) low); undenied = yes };
      })
      (λ _ e. absurd (true≢false (cc))))
      e

  -- one of the first n cells holds such a print, of tick t
  pub record Among (n t : ℕ) : Type 0 where
    pub cell : ℕ
    pub low : cell < n
    pub offered : Offered (cell_at p cell) t

  among : (n t : ℕ) → agreed_in p remotes tick n ≡ Some t → Among n t
  unfolding agreed_in
  among zero t e = absurd (true≢false (cc))
  among (suc n) t e =
      ⊎_elim
      (λ l. let r = among n t l in record { cell = r.cell; low = omega arith; offered = r.offered })
      (λ r. record { cell = n; low = omega arith; offered = offered (cell_at p n) t r })
      (either (agreed_in p remotes tick n) (offer p remotes tick (cell_at p n)) t e)

  reaches : (n i : ℕ) (f : Fingerprint) → i < n → cell_at p i ≡ Some f → Agreed f
      → Reaches f.tick (agreed_in p remotes tick n)
  unfolding agreed_in
  reaches zero i f l e a = absurd (omega arith)
  reaches (suc n) i f l e a =
      case_eq i n
      (λ s.
      reaches_right f.tick (agreed_in p remotes tick n) (offer p remotes tick (cell_at p n))
      (record { tick = f.tick; is = rw (← s, e) (offers f a); least = omega arith }))
      (λ s. reaches_left f.tick (agreed_in p remotes tick n) (offer p remotes tick (cell_at p n))
      (reaches n i f (omega arith) e a))

  pub last_agreed_is : (t : ℕ) → last_agreed p remotes tick ≡ Some t → Among history t
  unfolding last_agreed
  last_agreed_is t e = among history t e

  pub last_agreed_highest : (i : ℕ) (f : Fingerprint) → i < history → cell_at p i ≡ Some f → Agreed f
      → Reaches f.tick (last_agreed p remotes tick)
  unfolding last_agreed
  last_agreed_highest i f l e a = reaches history i f l e a
