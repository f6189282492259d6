-- What later layers use of the pump: what it can do, that it moves nothing but its own kind and place, that at most
-- three messages to each other seat precede 71, and from whom and to whom a message goes. What an Inputs carries is in
-- Newest.antt. Assumes nothing.
use Prim.Native.Nat.{ℕ, zero, suc, ◌+◌, ◌-◌, ◌*◌, ◌<◌, ◌≤◌, min}
use mathlib.Core.Path.{◌≡◌, refl, sym, ap, ◌∙◌}
use mathlib.Core.Bool.{Bool, true, false, and-false, true≢false}
use native.Mathlib.Omega.{arith}
use lib.Dec.{ltb}
use borrow.Author.Tests.{eq-eqb}
use Rattle.std.specs.Prelude.{Option, None, Some}
use Rattle.logic.proofs.Cases.{by_test, decide, case_eq, case_lt, if_true, if_false}
use Rattle.peer.specs.Seats.{seats, bit, has}
use Rattle.params.specs.Params.{bad_state, remotes_of}
use Rattle.params.specs.declared.SessionParams.{SessionParams}
use Rattle.params.proofs.Laws.{Sound, sound, has_remotes}
use Rattle.wire.specs.declared.Body.{Body}
use Rattle.wire.specs.declared.Message.{Message}
use Rattle.window.specs.declared.Window.{Window}
use Rattle.session.specs.Session.{with_head, with_pass}
use Rattle.session.specs.declared.Emit.{Emit}
use Rattle.session.specs.declared.Emit.TheVariants.{Hello, Inputs, Digest, Bye, Done}
use Rattle.session.specs.declared.Head.{Head}
use Rattle.session.specs.declared.Session.{Session}
use Rattle.pump.specs.declared.Outbound.TheVariants.{Send, BadState}
use Rattle.pump.specs.declared.Pumped.{Pumped}
use Rattle.pump.specs.Numbers.{outbound_no}
use Rattle.pump.specs.Pump.{next_remote, target_of, saying, addressed, say_to, say, quiet, pass_ends}
use Rattle.pump.specs.Pump.{send, sent, pump_digest, pump_inputs, pump_hello, pump_bye, pump_from, pump_head}
use Rattle.pump.specs.Pump.{HeadPumped, pumped, pump}

-- ---- the seats that are left

-- how many of n seats from `place` on are in the set
unfoldable pub remaining : (remotes place n : ℕ) → ℕ
remaining remotes place zero = 0
remaining remotes place (suc n) = bit (has remotes place) + remaining remotes (place + 1) n

bit_le : (b : Bool) → bit b ≤ 1
bit_le true = omega arith
bit_le false = omega arith

remaining_le : (remotes place n : ℕ) → remaining remotes place n ≤ n
unfolding remaining
remaining_le remotes place zero = omega arith
remaining_le remotes place (suc n) = omega (arith, remaining_le remotes (place + 1) n, bit_le (has remotes place))

-- one that is not in the set leaves one fewer
remaining_lt : (remotes place n j : ℕ) → has remotes j ≡ false → place ≤ j → j < place + n
    → remaining remotes place n < n
unfolding remaining
remaining_lt remotes place zero j e l h = absurd (omega arith)
remaining_lt remotes place (suc n) j e l h =
    case_eq place j
    (λ q. rw (q, e) (omega (arith, remaining_le remotes (j + 1) n)))
    (λ q. omega (arith, remaining_lt remotes (place + 1) n j e (omega arith) (omega arith), bit_le (has remotes place)))

-- the seat that a search finds
record Found (remotes place n k : ℕ) : Type 0 where
  from : place ≤ k
  below : k < place + n
  in_set : has remotes k ≡ true
  falls : remaining remotes (k + 1) (place + n - (k + 1)) < remaining remotes place n

found : (remotes place n k : ℕ) → next_remote remotes place n ≡ Some k → Found remotes place n k
unfolding next_remote remaining
found remotes place zero k e = let z : ◌≡◌ {A = ℕ} 0 1 = cc in absurd (omega arith)
found remotes place (suc n) k e =
    decide (has remotes place)
    (λ t.
    let q : place ≡ k = cc (sym (if_true (Some place) (next_remote remotes (place + 1) n) t) ∙ e) in
    let m : place + suc n - (place + 1) ≡ n = omega arith in
    record {
      from = omega arith;
      below = omega arith;
      in_set = rw (← q) t;
      falls = rw (← q, m, t) (omega arith);
    })
    (λ f.
    let r = found remotes (place + 1) n k (sym (if_false (Some place) (next_remote remotes (place + 1) n) f) ∙ e) in
    let m : place + suc n - (k + 1) ≡ place + 1 + n - (k + 1) = omega arith in
    record {
      from = omega (arith, r.from);
      below = omega (arith, r.below);
      in_set = r.in_set;
      falls = rw (f, m) (omega (arith, r.falls));
    })

-- how many remotes a circle can have
abbrev pub others : ℕ
others = seats - 1

-- the most messages of a pass: a Hello, an Inputs and a Digest to each of them. 21 at eight seats
abbrev pub pass_most : ℕ
pass_most = 3 * others

-- how many remotes there are from `place` on
unfoldable pub ahead : SessionParams → ℕ → ℕ
ahead p place = remaining (remotes_of p) place (seats - place)

local_not : (p : SessionParams) → Sound p → has (remotes_of p) p.local ≡ false
local_not p ok =
    let l : p.local < seats = omega (arith, ok.count.greatest, ok.local) in
    has_remotes p p.local l ∙ rw (eq-eqb p.local p.local refl) (and-false (ltb p.local p.count))

-- at most all others, as the local seat is none
pub ahead-le : (p : SessionParams) → Sound p → (place : ℕ) → ahead p place ≤ others
unfolding ahead
ahead-le p ok place =
    let l : p.local < seats = omega (arith, ok.count.greatest, ok.local) in
    case_lt p.local place
    (λ h. omega (arith, remaining_le (remotes_of p) place (seats - place)))
    (λ h. omega (arith, remaining_lt (remotes_of p) place (seats - place) p.local (local_not p ok) h (omega arith)))

-- ---- what is left of a pass

-- how many messages can go before the pass ends: those of this kind to the seats from `place` on, and of the kinds
-- after it
unfoldable pub left_at : SessionParams → Emit → ℕ → ℕ
left_at p Hello place = 2 * others + ahead p place
left_at p Inputs place = others + ahead p place
left_at p Digest place = ahead p place
left_at p Bye place = ahead p place
left_at p Done place = 0

abbrev pub left : Session → ℕ
left s = left_at s.head.params s.head.pass.kind s.head.pass.place

-- at most a whole pass
pub left_le : (p : SessionParams) → Sound p → (emit : Emit) (place : ℕ) → left_at p emit place ≤ pass_most
unfolding left_at
left_le p ok Hello place = omega (arith, ahead-le p ok place)
left_le p ok Inputs place = omega (arith, ahead-le p ok place)
left_le p ok Digest place = omega (arith, ahead-le p ok place)
left_le p ok Bye place = omega (arith, ahead-le p ok place)
left_le p ok Done place = omega arith

-- ---- a message: to whom, and what it says

pub record Told (s : Session) (emit : Emit) (place k : ℕ) (body : Body) : Type 0 where
  pub target : target_of s.head place ≡ Some k
  pub says : saying s.head s.window emit ≡ Some body

addressed_to : (j k : ℕ) (body : Body) (x : Option Body) → addressed j x ≡ Some (k, body) → (j ≡ k) × (x ≡ Some body)
unfolding addressed
addressed_to j k body None e = let z : ◌≡◌ {A = ℕ} 0 1 = cc in absurd (omega arith)
addressed_to j k body (Some b) e =
    let both : (j, b) ≡ (k, body) = cc in
    (ap (λ (x : ℕ × Body). x.0) both, ap (λ (x : ℕ × Body). Some x.1) both)

pub told : (s : Session) (emit : Emit) (place k : ℕ) (body : Body) → say s.head s.window emit place ≡ Some (k, body)
    → Told s emit place k body
unfolding say say_to
told s emit place k body e = from (target_of s.head place) refl
  where
    from : (t : Option ℕ) → target_of s.head place ≡ t → Told s emit place k body
    from None q =
        let f = sym (ap (say_to s.head s.window emit) q) ∙ e in
        let z : ◌≡◌ {A = ℕ} 0 1 = cc in
        absurd (omega arith)
    from (Some j) q =
        let h = s.head in
        let w = s.window in
        let both = addressed_to j k body (saying h w emit) (sym (ap (say_to h w emit) q) ∙ e) in
        record { target = q ∙ ap Some both.0; says = both.1 }

-- it goes to a remote, and then fewer are left
pub record Fell (p : SessionParams) (emit : Emit) (place k : ℕ) : Type 0 where
  pub seat : k < seats
  pub remote : has (remotes_of p) k ≡ true
  pub falls : left_at p emit (min (k + 1) 255) < left_at p emit place

fewer : (s : Session) (emit : Emit) (place k : ℕ) (body : Body) → saying s.head s.window emit ≡ Some body
    → ahead s.head.params (k + 1) < ahead s.head.params place
    → left_at s.head.params emit (k + 1) < left_at s.head.params emit place
unfolding left_at saying
fewer s Hello place k body q f = omega arith
fewer s Inputs place k body q f = omega arith
fewer s Digest place k body q f = omega arith
fewer s Bye place k body q f = omega arith
fewer s Done place k body q f = let z : ◌≡◌ {A = ℕ} 0 1 = cc in absurd (omega arith)

pub fell : (s : Session) (emit : Emit) (place k : ℕ) (body : Body) → say s.head s.window emit place ≡ Some (k, body)
    → Fell s.head.params emit place k
unfolding target_of ahead
fell s emit place k body e =
    let t = told s emit place k body e in
    let p = s.head.params in
    let f = found (remotes_of p) place (seats - place) k t.target in
    let l : k < seats = omega (arith, f.from, f.below) in
    let n : min (k + 1) 255 ≡ k + 1 = omega arith in
    let m : place + (seats - place) - (k + 1) ≡ seats - (k + 1) = omega (arith, f.from, f.below) in
    record { seat = l; remote = f.in_set; falls = rw n (fewer s emit place k body t.says (rw m at f.falls)) }

-- ---- what a pump can do

pub data Pumps (s : Session) : Pumped → Type 0 where
  refused : bad_state s.head.params ≡ true → Pumps s (pumped s (quiet s.head BadState))
  ended : bad_state s.head.params ≡ false → Pumps s (pumped s (pass_ends s.head))
  sends : (emit : Emit) (place k : ℕ) (body : Body) → bad_state s.head.params ≡ false
      → say s.head s.window emit place ≡ Some (k, body) → left_at s.head.params emit place ≤ left s
      → Pumps s (pumped s (send s.head s.window emit k body))

by_say : (P : HeadPumped → Type 0) (h : Head) (w : Window) (emit : Emit) (x : Option (ℕ × Body)) (rest : HeadPumped)
    → ((k : ℕ) (body : Body) → x ≡ Some (k, body) → P (send h w emit k body)) → P rest → P (sent h w emit x rest)
unfolding sent
by_say P h w emit None rest f g = g
by_say P h w emit (Some (k, body)) rest f g = f k body refl

-- what the head comes to is a pump of the session
abbrev Does : Session → HeadPumped → Type 0
Does s r = Pumps s (pumped s r)

module _ (s : Session) (ok : bad_state s.head.params ≡ false) where
  most : (place : ℕ) → ahead s.head.params place ≤ others
  most place = ahead-le s.head.params (sound s.head.params ok) place

  digest_is : (place : ℕ) → left_at s.head.params Digest place ≤ left s
      → Does s (pump_digest s.head s.window place)
  unfolding pump_digest
  digest_is place h =
      by_say (Does s) s.head s.window Digest _ _ (λ k body e. sends Digest place k body ok e h) (ended ok)

  after_inputs : (place : ℕ) → left_at s.head.params Inputs place ≤ left s
      → left_at s.head.params Digest 0 ≤ left s
  unfolding left_at
  after_inputs place h = omega (arith, most 0)

  inputs_is : (place : ℕ) → left_at s.head.params Inputs place ≤ left s
      → Does s (pump_inputs s.head s.window place)
  unfolding pump_inputs
  inputs_is place h =
      by_say (Does s) s.head s.window Inputs _ _ (λ k body e. sends Inputs place k body ok e h)
      (by_test (Does s) (λ _. digest_is 0 (after_inputs place h)) (λ _. ended ok))

  after_hello : (place : ℕ) → left_at s.head.params Hello place ≤ left s
      → left_at s.head.params Inputs 0 ≤ left s
  unfolding left_at
  after_hello place h = omega (arith, most 0)

  hello_is : (place : ℕ) → left_at s.head.params Hello place ≤ left s
      → Does s (pump_hello s.head s.window place)
  unfolding pump_hello
  hello_is place h =
      by_say (Does s) s.head s.window Hello _ _ (λ k body e. sends Hello place k body ok e h)
      (by_test (Does s) (λ _. inputs_is 0 (after_hello place h)) (λ _. ended ok))

  bye_is : (place : ℕ) → left_at s.head.params Bye place ≤ left s → Does s (pump_bye s.head s.window place)
  unfolding pump_bye
  bye_is place h =
      by_say (Does s) s.head s.window Bye _ _ (λ k body e. sends Bye place k body ok e h) (ended ok)

  from_is : (emit : Emit) → left_at s.head.params emit s.head.pass.place ≤ left s
      → Does s (pump_from s.head s.window emit)
  unfolding pump_from
  from_is Hello h = hello_is s.head.pass.place h
  from_is Inputs h = inputs_is s.head.pass.place h
  from_is Digest h = digest_is s.head.pass.place h
  from_is Bye h = bye_is s.head.pass.place h
  from_is Done h = ended ok

pub pump_is : (s : Session) → Pumps s (pump s)
unfolding pump pump_head
pump_is s = by_test (Does s) (λ bad. refused bad) (λ ok. from_is s ok s.head.pass.kind (omega arith))

-- ---- what it changes

-- nothing but the pump's kind and place
pub pump_moves : (s : Session) → (pump s).session ≡ with_head s (with_pass s.head (pump s).session.head.pass)
unfolding quiet pass_ends send
pump_moves s = from (pump_is s)
  where
    from : {p : Pumped} → Pumps s p → p.session ≡ with_head s (with_pass s.head p.session.head.pass)
    from (refused bad) = refl
    from (ended ok) = refl
    from (sends emit place k body ok e h) = refl

-- and nothing of a record whose parameters fail
pub pump_bad : (s : Session) → bad_state s.head.params ≡ true → (pump s).session ≡ s
unfolding pump pump_head quiet
pump_bad s bad = ap (λ (r : HeadPumped). with_head s r.head) (if_true _ _ bad)

-- ---- at most a pass precedes 71

pub left_falls : (s : Session) → outbound_no (pump s).answer ≡ 0 → left (pump s).session < left s
unfolding quiet pass_ends send
left_falls s = from (pump_is s)
  where
    from : {p : Pumped} → Pumps s p → outbound_no p.answer ≡ 0 → left p.session < left s
    from (refused bad) z = absurd (omega arith)
    from (ended ok) z = absurd (omega arith)
    from (sends emit place k body ok e h) z = omega (arith, (fell s emit place k body e).falls)

-- n pumps in a row
unfoldable pub pumps : ℕ → Session → Session
pumps zero s = s
pumps (suc n) s = pumps n (pump s).session

-- a pass: at most n messages, and then 71
pub record Pass (s : Session) (n : ℕ) : Type 0 where
  pub long : ℕ
  pub most : long ≤ n
  pub before : (j : ℕ) → j < long → outbound_no (pump (pumps j s)).answer ≡ 0
  pub end : outbound_no (pump (pumps long s)).answer ≡ 71

answers : (s : Session) → bad_state s.head.params ≡ false → {G : Type 0}
    → (outbound_no (pump s).answer ≡ 0 → G) → (outbound_no (pump s).answer ≡ 71 → G) → G
unfolding quiet pass_ends send
answers s ok {G} f g = from (pump_is s) f g
  where
    from : {p : Pumped} → Pumps s p → (outbound_no p.answer ≡ 0 → G) → (outbound_no p.answer ≡ 71 → G) → G
    from (refused bad) f g = absurd (true≢false (sym bad ∙ ok))
    from (ended ok) f g = g refl
    from (sends emit place k body ok e h) f g = f refl

no_more : (s : Session) (n : ℕ) → outbound_no (pump s).answer ≡ 71 → Pass s n
unfolding pumps
no_more s n z = record { long = 0; most = omega arith; before = λ j l. absurd (omega arith); end = z }

one_more : (s : Session) (n : ℕ) → outbound_no (pump s).answer ≡ 0 → Pass (pump s).session n → Pass s (suc n)
unfolding pumps
one_more s n z r = record { long = suc r.long; most = omega (arith, r.most); before = upto; end = r.end }
  where
    upto : (j : ℕ) → j < suc r.long → outbound_no (pump (pumps j s)).answer ≡ 0
    upto zero l = z
    upto (suc j) l = r.before j (omega arith)

pass_in : (n : ℕ) (s : Session) → bad_state s.head.params ≡ false → left s ≤ n → Pass s n
pass_in zero s ok h = answers s ok (λ z. absurd (omega (arith, left_falls s z))) (λ z. no_more s zero z)
pass_in (suc n) s ok h =
    answers s ok
    (λ z. one_more s n z (pass_in n (pump s).session
    (ap (λ (q : Session). bad_state q.head.params) (pump_moves s) ∙ ok)
    (omega (arith, left_falls s z))))
    (λ z. no_more s (suc n) z)

-- with no other call between, at most `pass_most` messages precede 71
pub pass : (s : Session) → bad_state s.head.params ≡ false → Pass s pass_most
pass s ok =
    let h = s.head in
    pass_in pass_most s ok (left_le h.params (sound h.params ok) h.pass.kind h.pass.place)

refused_first : (s : Session) → bad_state s.head.params ≡ true → outbound_no (pump (pumps 0 s)).answer ≡ 20
unfolding pumps pump pump_head quiet
refused_first s bad =
    ap (λ (r : HeadPumped). outbound_no r.answer)
    (if_true (quiet s.head BadState) (pump_from s.head s.window s.head.pass.kind) bad)

-- and one pump more in a row do not all answer with a message
pub at_most_pass : (s : Session) (n : ℕ) → ((j : ℕ) → j < n → outbound_no (pump (pumps j s)).answer ≡ 0) → n ≤ pass_most
at_most_pass s n all =
    decide (bad_state s.head.params)
    (λ bad. case_lt 0 n (λ l. absurd (omega (arith, all 0 l, refused_first s bad))) (λ l. omega arith))
    (λ ok.
    let r = pass s ok in
    case_lt r.long n (λ l. absurd (omega (arith, all r.long l, r.end))) (λ l. omega (arith, r.most)))

-- ---- every message: from the local seat and of this session, to a remote
pub record Sent (s : Session) (k : ℕ) (m : Message) : Type 0 where
  pub sender : m.sender ≡ s.head.params.local
  pub session : m.session ≡ s.head.params.session
  pub remote : has (remotes_of s.head.params) k ≡ true
  pub good : bad_state s.head.params ≡ false

pub message_of : {j k : ℕ} {l m : Message} → Send j l ≡ Send k m → l ≡ m
message_of e = cc

seat_of_lem : {j k : ℕ} {l m : Message} → Send j l ≡ Send k m → j ≡ k
seat_of_lem e = cc

pub message_sent : (s : Session) (k : ℕ) (m : Message) → (pump s).answer ≡ Send k m → Sent s k m
unfolding quiet pass_ends send
message_sent s k m = from (pump_is s)
  where
    from : {p : Pumped} → Pumps s p → p.answer ≡ Send k m → Sent s k m
    from (refused bad) e = let z : ◌≡◌ {A = ℕ} 0 1 = cc in absurd (omega arith)
    from (ended good) e = let z : ◌≡◌ {A = ℕ} 0 1 = cc in absurd (omega arith)
    from (sends emit place j body good t h) e =
        let same = sym (message_of e) in
        record {
          sender = ap (λ (x : Message). x.sender) same;
          session = ap (λ (x : Message). x.session) same;
          remote = rw (seat_of_lem e) at (fell s emit place j body t).remote;
          good = good;
        }
