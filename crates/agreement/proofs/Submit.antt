-- Submit keeps the facts: the bytes that are written at one's own next tick are the press that the answer shows.
-- Assumes nothing.
use Prim.Native.Nat.{ℕ, suc, ◌≤◌, ◌<◌}
use mathlib.Core.Path.{◌≡◌, refl, sym, ap, ◌∙◌}
use mathlib.Core.Logic.{◌≢◌}
use mathlib.Core.Bool.{true≢false}
use mathlib.Core.List.Memᴰ
use mathlib.Core.List.{List, [], ◌∷◌}
use native.Mathlib.Omega.{arith}
use lib.ListN.{length}
use borrow.Author.Tests.{eq-eqb}
use Rattle.std.specs.Prelude.{Err, Ok}
use Rattle.logic.specs.Saturating.{most, raised}
use Rattle.logic.proofs.Cases.{by_test, if_true}
use Rattle.peer.specs.Seats.{seats}
use Rattle.params.specs.Params.{max_width}
use Rattle.params.specs.declared.SessionParams.{SessionParams}
use Rattle.params.proofs.Laws.{Sound, sound}
use Rattle.window.specs.Window.{write_frame}
use Rattle.window.specs.declared.Window.{Window}
use Rattle.window.proofs.Laws.{Wrote, fresh, older, write_is, written_sized, wrote}
use Rattle.session.specs.declared.Head.{Head}
use Rattle.session.specs.declared.Session.{Session}
use Rattle.session.specs.declared.Answered.{Answered}
use Rattle.session.specs.Numbers.{Submit, submit_no}
use Rattle.session.specs.Session.{session_of, with_head, session_with, started}
use Rattle.session.specs.Host.{submit}
use Rattle.session.specs.Host as Host
use Rattle.session.proofs.Cases.{submit_cases}
use Rattle.agreement.specs.World.{seated, pressed, press_shown, submit_turn}
use Rattle.agreement.specs.Demand.{Valid, Pressed, Said, presses}
use Rattle.agreement.proofs.Facts.{next_of, pending_of, Log, RingFacts, SessOk, EventOk, TurnGoal}
use Rattle.agreement.proofs.Grow.{single, Sub, fold_up, prints_up, out_up, quiet_ok, same_pressed, once-pressed}

pub raised_lt : (n : ℕ) → n < most → raised n ≡ suc n
unfolding raised
raised_lt n l = omega arith

-- what is no part of the facts may change
pub start_ok : {p : SessionParams} {log : Log} {i : ℕ} (s : Session) → SessOk p log i s
    → SessOk p log i (with_head s (started s.head))
unfolding started
start_ok {p} {log} {i} s h =
    by_test (λ (k : Head). SessOk p log i (with_head s k)) (λ _. record { base = h.base; agree = h.agree }) (λ _. h)

-- a frame of the agreed width that is its seat's press can be written
pub write_ok : (p : SessionParams) (log : Log) (w : Window) (k tick : ℕ) (v : List ℕ) → k < seats
    → p.width ≤ max_width → p.count ≤ seats → length v ≡ p.width
    → Pressed log k tick v → RingFacts p log w → RingFacts p log (write_frame w k tick v)
write_ok p log w k tick v low short few lv x h =
    let fits : length v ≤ max_width = omega arith in
    rw (write_is w k tick v h.ok low fits) (record {
      ok = written_sized w k tick v h.ok low fits;
      each = λ k' t v' l y. held k' t v' l (wrote w p.width k tick v k' t v' h.ok low lv short (omega arith) y);
    })
  where
    held : (k' t : ℕ) (v' : List ℕ) → k' < p.count → Wrote w p.width k tick v k' t v' → Pressed log k' t v'
    held k' t v' l (fresh a b c) = rw (a, b, c) x
    held k' t v' l (older y) = h.each k' t v' l y

module _ (p : SessionParams) (valid : Valid p) (log : Log) (i : ℕ) (li : i < p.count) where
  ok : Sound (seated p i)
  ok = sound (seated p i) (valid i li)

  presses_more : (t : ℕ) (b : List ℕ) → presses (pressed i t b ∷ log) i ≡ suc (presses log i)
  unfolding presses
  presses_more t b = if_true _ _ (eq-eqb i i refl)

  -- the press goes in the window, and the next local tick rises
  press_ok : (s : Session) (b : List ℕ) → length b ≡ p.width → next_of s < most → SessOk p log i s
      → let w = write_frame s.window s.head.params.local (next_of s) b in
      SessOk p (pressed i (next_of s) b ∷ log) i (session_of (Host.pressed s.head) w s.prints)
  unfolding Host.pressed
  press_ok s b lb room h =
      let longer = pressed i (next_of s) b ∷ log in
      let up : Sub log longer = λ e x. Memᴰ.tail x in
      let f = h.base in
      let me : s.head.params.local ≡ i = ap (λ (x : SessionParams). x.local) f.par in
      let low : i < seats = omega (arith, ok.count.greatest) in
      let held : RingFacts p longer s.window =
      record { ok = f.ring.ok; each = λ k t v l x. Memᴰ.tail (f.ring.each k t v l x) } in
      let ring = write_ok p longer s.window i (next_of s) b low ok.width.greatest ok.count.greatest lb
      (Memᴰ.head refl) held in
      record {
        base =
            record {
              par = f.par;
              ring = rw me ring;
              next =
                  record {
                    below = λ t v x. rw (raised_lt (next_of s) room) (below t v x);
                    many = presses_more (next_of s) b ∙ ap suc f.next.many ∙ sym (raised_lt (next_of s) room);
                  };
              fold = fold_up up p (pending_of s) s.head.play.step s.head.play.digest f.fold;
              prints = prints_up up f.prints;
              said = λ t d x. f.said t d (unsaid t d x);
              out = out_up up f.out;
            };
        agree = h.agree;
      }
    where
      below : (t : ℕ) (v : List ℕ) → Pressed (pressed i (next_of s) b ∷ log) i t v → t < suc (next_of s)
      below t v (Memᴰ.head e) = let q : t ≡ next_of s = cc in omega arith
      below t v (Memᴰ.tail x) = omega (arith, h.base.next.below t v x)

      unsaid : (t d : ℕ) → Said (pressed i (next_of s) b ∷ log) i t d → Said log i t d
      unsaid t d (Memᴰ.head e) = absurd (true≢false (cc))
      unsaid t d (Memᴰ.tail x) = x

  -- a refused press shows nothing
  hidden : (b : List ℕ) (a : Submit) → submit_no a ≢ 0 → press_shown i b a ≡ []
  unfolding press_shown
  hidden b (Ok tick) n = absurd (n refl)
  hidden b (Err refusal) n = refl

  refused : (a : Submit) (b : List ℕ) (s : Session) → submit_no a ≢ 0 → SessOk p log i s
      → TurnGoal p log i (submit_turn i b (session_with s a))
  unfolding submit_turn
  refused a b s n h few = rw (hidden b a n) (quiet_ok h)

  accepted : (s : Session) (b : List ℕ) (u : Session) → SessOk p log i s
      → (next_of s < most → SessOk p (pressed i (next_of s) b ∷ log) i u)
      → TurnGoal p log i (submit_turn i b (session_with u (Ok (next_of s))))
  unfolding submit_turn press_shown
  accepted s b u h g few = record {
    session = g (omega (arith, few i li, presses_more (next_of s) b, h.base.next.many));
    sends = λ m x. elim x [ ];
    shows = single (EventOk p (pressed i (next_of s) b ∷ log)) tt;
    once = once-pressed i (next_of s) b (λ v x. omega (arith, h.base.next.below (next_of s) v x));
    others = λ j n. same_pressed i j log (next_of s) b n;
    keep = λ e x. Memᴰ.tail x;
  }

  pub submit_ok : (s : Session) (b : List ℕ) → SessOk p log i s → TurnGoal p log i (submit_turn i b (submit s b))
  submit_ok s b h =
      submit_cases (λ (r : Answered Submit). TurnGoal p log i (submit_turn i b r)) s b (λ a n. refused a b s n h)
      (λ _ e.
      let lb : length b ≡ p.width = e ∙ ap (λ (x : SessionParams). x.width) h.base.par in
      accepted s b _ h (λ room. start_ok _ (press_ok s b lb room h)))
