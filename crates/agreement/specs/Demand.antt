-- Demand 3: "Take fresh sessions with equal parameters except their distinct seats, fed only messages their own pumps
-- made, each given with its true source, unaltered, but lost, late, repeated or reordered at will. While each has
-- accepted fewer than 2^64-1 presses, any two steps for one tick carry the same bytes for every seat, those its host
-- submitted, and leave equal input digests. None ends as desynced at a tick unless two committed different world
-- digests there. One with no outcome never holds its own and another's differing world digests for one tick." Assumes
-- nothing.
use Rattle.std.specs.Prelude.{ℕ, suc, ◌<◌, ◌≡◌, false, ◌≢◌, None, Some, eqb, get_or, take}
use mathlib.Core.List.{List, [], ◌∷◌, Memᴰ}
use Rattle.logic.specs.Test.{when◌then◌else◌}
use Rattle.logic.specs.Saturating.{most}
use Rattle.params.specs.Params.{bad_state}
use Rattle.params.specs.declared.SessionParams.{SessionParams}
use Rattle.fingerprint.specs.Cells.{own_for, remote_for}
use Rattle.fingerprint.specs.declared.Fingerprint.{Fingerprint}
use Rattle.fingerprint.specs.declared.Fingerprints.{Fingerprints}
use Rattle.session.specs.declared.Outcome.TheVariants.{Desynced}
use Rattle.agreement.specs.World.{seated, Event, pressed, stepped, committed, World}

-- ---- the premises

-- the parameters are ones that `open` takes, at every seat of the circle
abbrev pub Valid : SessionParams → Type 0
Valid p = (i : ℕ) → i < p.count → bad_state (seated p i) ≡ false

-- how many presses of seat i were accepted
unfoldable pub presses : List Event → ℕ → ℕ
presses [] i = 0
presses (pressed k tick bytes ∷ log) i = when eqb k i then suc (presses log i) else presses log i
presses (stepped k tick rows digest ∷ log) i = presses log i
presses (committed k tick state ∷ log) i = presses log i

-- each has accepted fewer than 2^64-1
abbrev pub Few : SessionParams → List Event → Type 0
Few p log = (i : ℕ) → i < p.count → presses log i < most

-- ---- what is claimed

-- a seat's bytes for a tick are those of its accepted submit for that tick
abbrev pub Pressed : List Event → (seat tick : ℕ) → List ℕ → Type 0
Pressed log seat tick bytes = Memᴰ (pressed seat tick bytes) log

abbrev pub Said : List Event → (seat tick state : ℕ) → Type 0
Said log seat tick state = Memᴰ (committed seat tick state) log

-- two steps for one tick: the same bytes for every seat, those its host submitted and no others, and equal input
-- digests
pub record SameStep (p : SessionParams) (log : List Event) (tick : ℕ) (rows others : List (List ℕ))
    (digest other : ℕ) : Type 0 where
  pub bytes : rows ≡ others
  pub digests : digest ≡ other
  pub submitted : (k : ℕ) → k < p.count → Pressed log k tick (take p.width (get_or rows k []))
  pub no_other : (k : ℕ) (v : List ℕ) → k < p.count → Pressed log k tick v → v ≡ take p.width (get_or rows k [])

-- two committed different world digests there: this session, and another seat of the circle
pub record Differ (p : SessionParams) (log : List Event) (i tick : ℕ) : Type 0 where
  pub seat : ℕ
  pub within : seat < p.count
  pub another : seat ≢ i
  pub ours : ℕ
  pub theirs : ℕ
  pub we : Said log i tick ours
  pub they : Said log seat tick theirs
  pub apart : ours ≢ theirs

-- its own and another's world digest for one tick do not differ
abbrev pub AgreeAt : (count i : ℕ) → Fingerprints → (tick : ℕ) → Type 0
AgreeAt count i prints tick = (k : ℕ) (mine theirs : Fingerprint) → k < count → k ≢ i
    → own_for prints tick ≡ Some mine → remote_for prints k tick ≡ Some theirs → mine.state ≡ theirs.state

pub record Demand3 (p : SessionParams) (w : World) : Type 0 where
  pub steps : (i j tick : ℕ) (rows others : List (List ℕ)) (digest other : ℕ)
      → Memᴰ (stepped i tick rows digest) w.log → Memᴰ (stepped j tick others other) w.log
      → SameStep p w.log tick rows others digest other
  pub desynced : (i tick : ℕ) → i < p.count → (w.at i).head.outcome ≡ Some (Desynced tick) → Differ p w.log i tick
  pub holds : (i tick : ℕ) → i < p.count → (w.at i).head.outcome ≡ None → AgreeAt p.count i (w.at i).prints tick
