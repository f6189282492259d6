-- What a pump makes is true: the frames of an Inputs are its seat's presses, and a Digest is one that its seat
-- committed. Assumes nothing.
use Prim.Native.Nat.{ℕ, zero, suc, ◌+◌, ◌-◌, ◌*◌, ◌≤◌, ◌<◌}
use mathlib.Core.Path.{◌≡◌, refl, sym, ap, subst, ◌∙◌}
use mathlib.Core.List.{List, [], ◌∷◌, Memᴰ}
use native.Mathlib.Nat.{mul-le-mul_right, suc-mul}
use native.Mathlib.Omega.{arith}
use lib.ListN.{take, drop}
use lib.Seq.{take-take}
use Rattle.std.specs.Prelude.{None, Option, Some}
use Rattle.params.specs.declared.SessionParams.{SessionParams}
use Rattle.wire.specs.declared.Body.{Body}
use Rattle.wire.specs.declared.Body.TheVariants as Body'
use Rattle.wire.specs.declared.DigestBody.{DigestBody}
use Rattle.wire.specs.declared.Message.{Message}
use Rattle.window.specs.Window.{frame_of}
use Rattle.window.specs.Absorb.{frame_at}
use Rattle.fingerprint.specs.declared.Fingerprint.{Fingerprint}
use Rattle.session.specs.declared.Emit.{Emit}
use Rattle.session.specs.declared.Emit.TheVariants as Emit'
use Rattle.session.specs.declared.Session.{Session}
use Rattle.pump.specs.declared.Outbound.{Outbound}
use Rattle.pump.specs.declared.Outbound.TheVariants.{Send, Nothing, BadState}
use Rattle.pump.specs.declared.Pumped.{Pumped}
use Rattle.pump.specs.Pump.{inputs_of, digest_of, saying, quiet, pass_ends, send, pump}
use Rattle.pump.proofs.Laws.{Pumps, refused, ended, sends, pump_is, pump_moves, told, message_sent}
use Rattle.pump.proofs.Newest.{inputs_sent}
use Rattle.logic.proofs.Cases.{by_test}
use Rattle.agreement.specs.World.{Mail, run_on, mailed, pump_turn}
use Rattle.agreement.specs.Demand.{Said}
use Rattle.agreement.proofs.Facts.{Log, SessOk, BodyOk, MailOk, TurnOk}
use Rattle.agreement.proofs.Grow.{single, same_refl}

-- ---- the frames of a run stand in its front

take_nil : (n : ℕ) → take {A = ℕ} n [] ≡ []
take_nil zero = refl
take_nil (suc n) = refl

drop_of_take : (m n : ℕ) (l : List ℕ) → drop m (take n l) ≡ take (n - m) (drop m l)
drop_of_take zero n l = let e : n - 0 ≡ n = omega arith in rw e
drop_of_take (suc m) zero l = let e : 0 - suc m ≡ 0 = omega arith in rw e
drop_of_take (suc m) (suc n) [] = sym (take_nil (suc n - suc m))
drop_of_take (suc m) (suc n) (x ∷ l) = let e : suc n - suc m ≡ n - m = omega arith in rw e (drop_of_take m n l)

frame_front : (run : List ℕ) (w c j : ℕ) → j < c → frame_at (take (c * w) run) w j ≡ frame_at run w j
unfolding frame_at
frame_front run w c j l =
    let more : suc j * w ≤ c * w = mul-le-mul_right w l in
    rw (drop_of_take (j * w) (c * w) run)
    (take-take w (c * w - j * w) (drop (j * w) run) (omega (arith, more, suc-mul j w)))

-- ---- the digest that is sent is the one that is owed

record Owed (c : Option Fingerprint) (d : DigestBody) : Type 0 where
  print : Fingerprint
  is : c ≡ Some print
  tick : print.tick ≡ d.tick
  state : print.state ≡ d.state

says_digest : (s : Session) (emit : Emit) (d : DigestBody)
    → saying s.head s.window emit ≡ Some (Body'.Digest d) → Owed s.head.owed d
unfolding saying inputs_of digest_of
says_digest s Emit'.Hello d e = let z : ◌≡◌ {A = ℕ} 0 1 = cc in absurd (omega arith)
says_digest s Emit'.Inputs d e =
    by_test (λ (x : Option Body). x ≡ Some (Body'.Digest d) → Owed s.head.owed d)
    (λ _ q. let z : ◌≡◌ {A = ℕ} 0 1 = cc in absurd (omega arith))
    (λ _ q. let z : ◌≡◌ {A = ℕ} 0 1 = cc in absurd (omega arith)) e
says_digest s Emit'.Digest d e = from s.head.owed e
  where
    from : (c : Option Fingerprint) → digest_of c ≡ Some (Body'.Digest d) → Owed c d
    from None e = let z : ◌≡◌ {A = ℕ} 0 1 = cc in absurd (omega arith)
    from (Some f) e = record { print = f; is = refl; tick = cc; state = cc }
says_digest s Emit'.Bye d e = let z : ◌≡◌ {A = ℕ} 0 1 = cc in absurd (omega arith)
says_digest s Emit'.Done d e = let z : ◌≡◌ {A = ℕ} 0 1 = cc in absurd (omega arith)

digest_sent : (s : Session) (k : ℕ) (m : Message) (d : DigestBody) → (pump s).answer ≡ Send k m
    → m.body ≡ Body'.Digest d → Owed s.head.owed d
unfolding quiet pass_ends send
digest_sent s k m d = from (pump_is s)
  where
    from : {r : Pumped} → Pumps s r → r.answer ≡ Send k m → m.body ≡ Body'.Digest d → Owed s.head.owed d
    from (refused bad) e q = let z : ◌≡◌ {A = ℕ} 0 1 = cc in absurd (omega arith)
    from (ended good) e q = let z : ◌≡◌ {A = ℕ} 0 1 = cc in absurd (omega arith)
    from (sends emit place j body good t h) e q =
        let is : body ≡ Body'.Digest d = cc in
        says_digest s emit d ((told s emit place j body t).says ∙ ap Some is)

-- ---- a pump keeps the facts

module _ (p : SessionParams) (log : Log) (i : ℕ) (li : i < p.count) (s : Session) (h : SessOk p log i s) where
  me : s.head.params.local ≡ i
  me = ap (λ (x : SessionParams). x.local) h.base.par

  body_ok : (k : ℕ) (m : Message) → (pump s).answer ≡ Send k m → (b : Body) → m.body ≡ b
      → BodyOk log i b (run_on b (pump s).run)
  body_ok k m e (Body'.Hello b) q = tt
  body_ok k m e (Body'.Inputs b) q =
      let c = inputs_sent s k m b h.base.ring.ok e q in
      let w : b.width ≡ p.width = c.width ∙ ap (λ (x : SessionParams). x.width) h.base.par in
      λ j l.
      let frame : frame_at (take (b.count * b.width) (pump s).run) b.width j
      ≡ frame_of s.window i (b.first + j) p.width =
      frame_front (pump s).run b.width b.count j l ∙ c.frame j l
      ∙ ap (λ x. frame_of s.window x (b.first + j) b.width) me
      ∙ ap (frame_of s.window i (b.first + j)) w in
      rw frame (h.base.ring.each i (b.first + j) (frame_of s.window i (b.first + j) p.width) li
      (record { held = rw me at (c.held j l); frame = refl }))
  body_ok k m e (Body'.Digest d) q =
      let o = digest_sent s k m d e q in
      subst (λ (x : ℕ). Said log i d.tick x) o.state
      (subst (λ (x : ℕ). Said log i x o.print.state) o.tick (h.base.prints.owes o.print o.is))
  body_ok k m e (Body'.Bye b) q = tt
  body_ok k m e (Body'.Other kind) q = tt

  mail_ok : (a : Outbound) → (pump s).answer ≡ a → (m : Mail) → Memᴰ m (mailed i a (pump s).run) → MailOk log m
  unfolding mailed
  mail_ok (Send k m) e = single (MailOk log) (rw ((message_sent s k m e).sender ∙ me) (body_ok k m e m.body refl))
  mail_ok Nothing e = λ m x. elim x [ ]
  mail_ok BadState e = λ m x. elim x [ ]

  pub pump_ok : TurnOk p log i (pump_turn i (pump s))
  unfolding pump_turn
  pump_ok = record {
    session = subst (SessOk p log i) (sym (pump_moves s)) (record { base = h.base; agree = h.agree });
    sends = mail_ok (pump s).answer refl;
    shows = λ e x. elim x [ ];
    once = λ o. o;
    others = λ j _. same_refl j log;
    keep = λ e x. x;
  }
