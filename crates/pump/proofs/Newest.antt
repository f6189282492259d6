-- What an Inputs carries: the newest local frames that are still held, each in its place of the run.
-- Assumes nothing.
use Prim.Native.Nat.{ℕ, zero, suc, ◌+◌, ◌-◌, ◌*◌, ◌<◌, ◌≤◌}
use mathlib.Core.Path.{◌≡◌, refl, sym, ap, ◌∙◌}
use mathlib.Core.Bool.{true, false}
use mathlib.Core.List.{List}
use native.Mathlib.Omega.{arith}
use native.Mathlib.Nat.{mul-le-mul, suc-mul}
use lib.Arith.{digits_div, digits_mod, digits_lt}
use lib.Dec.{eqb}
use lib.ListN.{length, get_or, take, drop, length-take, length-drop}
use lib.Seq.{get_or-take, get_or-drop, ext_get_or}
use borrow.Author.Tests.{eqb-true, eqb-false, lt-ltb, le-ltb}
use Rattle.std.specs.Prelude.{Option, None, Some}
use Rattle.logic.specs.Test.{when◌then◌else◌}
use Rattle.logic.proofs.Cases.{by_test, if_true, if_false}
use Rattle.logic.proofs.Tabulated.{length-tabulate, get_or-tabulate}
use Rattle.peer.specs.Seats.{seats}
use Rattle.params.specs.Params.{max_width, bad_state}
use Rattle.params.proofs.Laws.{sound}
use Rattle.wire.specs.Wire.{redundancy}
use Rattle.wire.specs.declared.Body.{Body}
use Rattle.wire.specs.declared.Body.TheVariants as Body'
use Rattle.wire.specs.declared.InputsBody.{InputsBody}
use Rattle.wire.specs.declared.Message.{Message}
use Rattle.window.specs.Window.{is_held, frame_of}
use Rattle.window.specs.Absorb.{frame_at}
use Rattle.window.specs.declared.Window.{Window}
use Rattle.window.proofs.Laws.{Sized, frame_length}
use Rattle.fingerprint.specs.declared.Fingerprint.{Fingerprint}
use Rattle.session.specs.declared.Emit.{Emit}
use Rattle.session.specs.declared.Emit.TheVariants.{Hello, Inputs, Digest, Bye, Done}
use Rattle.session.specs.declared.Head.{Head}
use Rattle.session.specs.declared.Session.{Session}
use Rattle.pump.specs.declared.Outbound.TheVariants.{Send}
use Rattle.pump.specs.declared.Pumped.{Pumped}
use Rattle.pump.specs.Pump.{span, carried, first_tick, run_bytes, run_byte, run_from, run_of, inputs_of}
use Rattle.pump.specs.Pump.{digest_of, saying, quiet, pass_ends, run_beside, send, pump}
use Rattle.pump.proofs.Loops.{span_ticks, carried-le, carried_next}
use Rattle.pump.proofs.Laws.{told, Pumps, refused, ended, sends, pump_is, message_of}

module _ (w : Window) (seat : ℕ) where
  span_is : (tick n : ℕ) → span w seat tick (suc n) ≡ when is_held w seat tick
      then (when eqb tick 0 then 1 else suc (span w seat (tick - 1) n)) else 0
  unfolding span
  span_is tick n = refl

  span-zero : (tick : ℕ) → span w seat tick 0 ≡ 0
  unfolding span
  span-zero tick = refl

  held_on : (tick m i : ℕ) → is_held w seat tick ≡ true → ((j : ℕ) → j < m → is_held w seat (tick - 1 - j) ≡ true)
      → i < suc m → is_held w seat (tick - i) ≡ true
  held_on tick m zero e f l = let q : tick - 0 ≡ tick = omega arith in rw q e
  held_on tick m (suc i) e f l = let q : tick - suc i ≡ tick - 1 - i = omega arith in rw q (f i (omega arith))

  -- every frame that is counted is held
  span_held : (tick n i : ℕ) → i < span w seat tick n → is_held w seat (tick - i) ≡ true
  span_held tick zero i = rw span-zero (λ l. absurd (omega arith))
  span_held tick (suc n) i =
      rw span_is
      (by_test (λ (x : ℕ). i < x → is_held w seat (tick - i) ≡ true)
      (λ e.
      by_test (λ (x : ℕ). i < x → is_held w seat (tick - i) ≡ true)
      (λ _ l. let q : tick - i ≡ tick = omega arith in rw q e)
      (λ _ l. held_on tick (span w seat (tick - 1) n) i e (span_held (tick - 1) n) l))
      (λ _ l. absurd (omega arith)))

  -- the frame before the first x is not held, where fewer than n were asked for and there are so many ticks
  record Stops (tick n x : ℕ) : Type 0 where
    so : x < n → x ≤ tick → is_held w seat (tick - x) ≡ false

  -- and the one before them is not
  span_stops : (tick n : ℕ) → Stops tick n (span w seat tick n)
  span_stops tick zero = record { so = λ l m. absurd (omega arith) }
  span_stops tick (suc n) =
      rw span_is
      (by_test (Stops tick (suc n))
      (λ _.
      by_test (Stops tick (suc n)) (λ z. record { so = λ l m. absurd (omega (arith, eqb-true tick 0 z)) })
      (λ z. record {
        so = λ l m.
            let q : tick - suc (span w seat (tick - 1) n) ≡ tick - 1 - span w seat (tick - 1) n = omega arith in
            rw q ((span_stops (tick - 1) n).so (omega arith) (omega arith));
      }))
      (λ e. record { so = λ l m. let q : tick - 0 ≡ tick = omega arith in rw q e }))

module _ (h : Head) (w : Window) where
  -- the frames end at the newest
  pub carried_newest : first_tick h w + carried h w ≡ h.play.next_local
  carried_newest = omega (arith, carried_next h w)

  pub carried_held : (i : ℕ) → i < carried h w → is_held w h.params.local (first_tick h w + i) ≡ true
  unfolding carried
  carried_held i =
      let next = h.play.next_local in
      let seat = h.params.local in
      by_test (λ (x : ℕ). i < x → is_held w seat (next - x + i) ≡ true) (λ _ l. absurd (omega arith))
      (λ e l.
      let tick = next - 1 in
      let n = span w seat tick redundancy in
      let q : next - n + i ≡ tick - (n - 1 - i) =
      omega (arith, span_ticks w seat tick redundancy, eqb-false next 0 e) in
      rw q (span_held w seat tick redundancy (n - 1 - i) (omega arith)))

  -- and start at the eighth, at tick 0, or after one that is no longer held
  pub carried_stops : carried h w < redundancy → 1 ≤ first_tick h w
      → is_held w h.params.local (first_tick h w - 1) ≡ false
  unfolding carried
  carried_stops =
      let next = h.play.next_local in
      let seat = h.params.local in
      by_test (λ (x : ℕ). x < redundancy → 1 ≤ next - x → is_held w seat (next - x - 1) ≡ false)
      {b = eqb next 0} {x = 0} {y = span w seat (next - 1) redundancy}
      (λ e l m. absurd (omega (arith, eqb-true next 0 e)))
      (λ e l m.
      let tick = next - 1 in
      let n = span w seat tick redundancy in
      let q : next - n - 1 ≡ tick - n = omega arith in
      rw q ((span_stops w seat tick redundancy).so l (omega arith)))

-- the run: zero past the frames, and each frame in its place
module _ (w : Window) (seat first count width : ℕ) where
  pub length_run : length (run_from w seat first count width) ≡ run_bytes
  unfolding run_from
  length_run = length-tabulate run_bytes (run_byte w seat first count width)

  run_at : (j : ℕ) → j < run_bytes
      → get_or (run_from w seat first count width) j 0 ≡ run_byte w seat first count width j
  unfolding run_from
  run_at j l = get_or-tabulate run_bytes (run_byte w seat first count width) 0 j l

  pub run_past : (j : ℕ) → j < run_bytes → count * width ≤ j → get_or (run_from w seat first count width) j 0 ≡ 0
  unfolding run_byte
  run_past j l h = run_at j l ∙ if_false _ _ (le-ltb j (count * width) h)

  run_digit : (i k : ℕ) → i < count → k < width → i * width + k < run_bytes
      → get_or (run_from w seat first count width) (i * width + k) 0 ≡ get_or (frame_of w seat (first + i) width) k 0
  unfolding run_byte
  run_digit i k a b l =
      run_at (i * width + k) l ∙ if_true _ _ (lt-ltb (i * width + k) (count * width) (digits_lt a b))
      ∙ rw (digits_div i b, digits_mod i b)

  pub run_frame : Sized w → seat < seats → width ≤ max_width → count ≤ redundancy → (i : ℕ) → i < count
      → frame_at (run_from w seat first count width) width i ≡ frame_of w seat (first + i) width
  unfolding frame_at
  run_frame ok low short few i l =
      let run = run_from w seat first count width in
      let room : i * width + width ≤ run_bytes = omega (
        arith,
        suc-mul i width,
        mul-le-mul {n₁ = suc i} {m₁ = width} {n₂ = redundancy} {m₂ = max_width} (omega arith) short,
      ) in
      let long : length (take width (drop (i * width) run)) ≡ width =
      rw (length-take, length-drop, length_run) (omega arith) in
      ext_get_or 0 (take width (drop (i * width) run)) (frame_of w seat (first + i) width)
      (long ∙ sym (frame_length w seat (first + i) width ok low short))
      (λ k m.
      get_or-take width (drop (i * width) run) k 0 (omega arith) ∙ get_or-drop (i * width) run k 0
      ∙ run_digit i k l (omega arith) (omega arith))

-- an Inputs and its run: the newest frames, each held, and each as the window has it
pub record Carries (s : Session) (b : InputsBody) (run : List ℕ) : Type 0 where
  pub some : 1 ≤ b.count
  pub most : b.count ≤ redundancy
  pub width : b.width ≡ s.head.params.width
  pub newest : b.first + b.count ≡ s.head.play.next_local
  pub held : (i : ℕ) → i < b.count → is_held s.window s.head.params.local (b.first + i) ≡ true
  pub frame : (i : ℕ) → i < b.count
      → frame_at run b.width i ≡ frame_of s.window s.head.params.local (b.first + i) b.width

abbrev inputs_now : Head → Window → InputsBody
inputs_now h w = record { first = first_tick h w; count = carried h w; width = h.params.width }

carries : (s : Session) → bad_state s.head.params ≡ false → Sized s.window
    → (carried s.head s.window ≡ 0 → ⊥)
    → Carries s (inputs_now s.head s.window) (run_of s.head s.window)
unfolding run_of
carries s good ok some =
    let h = s.head in
    let w = s.window in
    let p = sound h.params good in
    record {
      some = omega (arith, some);
      most = carried-le h w;
      width = refl;
      newest = carried_newest h w;
      held = carried_held h w;
      frame =
          run_frame w h.params.local (first_tick h w) (carried h w) h.params.width ok
          (omega (arith, p.local, p.count.greatest)) p.width.greatest (carried-le h w);
    }

-- the kind that says an Inputs
module _ (h : Head) (w : Window) (b : InputsBody) where
  abbrev AsNow : Type 0
  AsNow = (carried h w ≡ 0 → ⊥) × (inputs_now h w ≡ b)

  owed_not : (x : Option Fingerprint) → digest_of x ≡ Some (Body'.Inputs b) → AsNow
  unfolding digest_of
  owed_not None e = let z : ◌≡◌ {A = ℕ} 0 1 = cc in absurd (omega arith)
  owed_not (Some f) e = let z : ◌≡◌ {A = ℕ} 0 1 = cc in absurd (omega arith)

  says_inputs : (emit : Emit) → saying h w emit ≡ Some (Body'.Inputs b) → AsNow
  unfolding saying inputs_of
  says_inputs Hello e = let z : ◌≡◌ {A = ℕ} 0 1 = cc in absurd (omega arith)
  says_inputs Inputs e =
      by_test (λ (x : Option Body). x ≡ Some (Body'.Inputs b) → AsNow)
      (λ _ e. let z : ◌≡◌ {A = ℕ} 0 1 = cc in absurd (omega arith))
      (λ t e. (eqb-false (carried h w) 0 t, cc))
      e
  says_inputs Digest e = owed_not h.owed e
  says_inputs Bye e = let z : ◌≡◌ {A = ℕ} 0 1 = cc in absurd (omega arith)
  says_inputs Done e = let z : ◌≡◌ {A = ℕ} 0 1 = cc in absurd (omega arith)

-- an Inputs that is sent carries exactly the newest frames that are held without a gap
pub inputs_sent : (s : Session) (k : ℕ) (m : Message) (b : InputsBody)
    → Sized s.window → (pump s).answer ≡ Send k m → m.body ≡ Body'.Inputs b → Carries s b (pump s).run
unfolding quiet pass_ends send run_beside
inputs_sent s k m b ok = from (pump_is s)
  where
    from : {p : Pumped} → Pumps s p → p.answer ≡ Send k m → m.body ≡ Body'.Inputs b → Carries s b p.run
    from (refused bad) e q = let z : ◌≡◌ {A = ℕ} 0 1 = cc in absurd (omega arith)
    from (ended good) e q = let z : ◌≡◌ {A = ℕ} 0 1 = cc in absurd (omega arith)
    from (sends emit place j body good t h) e q =
        let is : body ≡ Body'.Inputs b = ap (λ (x : Message). x.body) (message_of e) ∙ q in
        let both = says_inputs s.head s.window b emit ((told s emit place j body t).says ∙ ap Some is) in
        rw (is, ← both.1) (carries s good ok both.0)
