-- Both sides of each limit of the malformed reasons, computed from the definitions: one table under a single proof for
-- each kind. Assumes nothing.
use mathlib.Core.Path.{◌≡◌, refl}
use mathlib.Core.List.{[], ◌∷◌}
use Prim.Native.Nat.{ℕ, ◌+◌, ◌-◌}
use Rattle.peer.specs.Seats.{seats}
use lib.ListN.{replicate}
use Rattle.logic.specs.Test.{when◌then◌else◌}
use Rattle.logic.specs.Range.{outside}
use Rattle.wire.specs.declared.Body.{Body}
use Rattle.wire.specs.declared.Body.TheVariants.{Hello, Inputs, Digest, Bye, Other}
use Rattle.wire.specs.Wire.{form_no, hello_form, inputs_form, other_form, body_form, form_of}

-- the reason of a message with a run of so many bytes, 0 where it is good
form : (sender session : ℕ) → Body → (run : ℕ) → ℕ
form sender session body run =
    form_no (form_of (record { sender = sender; session = session; body = body }) (replicate run 0))

hello : (count width delay period : ℕ) → Body
hello count width delay period =
    Hello (record {
      agreement = 0;
      content = 0;
      rules = 0;
      seed = 0;
      count = count;
      width = width;
      delay = delay;
      period = period;
    })

inputs : (first count width : ℕ) → Body
inputs first count width = Inputs (record { first = first; count = count; width = width })

hellos :
    form (seats - 1) 1 (hello 2 1 0 1) 0 ∷ form seats 1 (hello 2 1 0 1) 0 ∷ form (seats - 1) 0 (hello 2 1 0 1) 0
    ∷ form 0 1 (hello 1 1 0 1) 0 ∷ form 0 1 (hello seats 1 0 1) 0 ∷ form 0 1 (hello (seats + 1) 1 0 1) 0
    ∷ form 0 1 (hello 2 0 0 1) 0 ∷ form 0 1 (hello 2 16 0 1) 0 ∷ form 0 1 (hello 2 17 0 1) 0
    ∷ form 0 1 (hello 2 1 63 1) 0 ∷ form 0 1 (hello 2 1 64 1) 0
    ∷ form 0 1 (hello 2 1 0 0) 0 ∷ form 0 1 (hello 2 1 0 255) 0
    ∷ form seats 0 (hello 1 0 64 0) 0 ∷ form (seats - 1) 0 (hello 1 0 64 0) 0 ∷ form (seats - 1) 1 (hello 1 0 64 0) 0
    ∷ form (seats - 1) 1 (hello 2 0 64 0) 0 ∷ form (seats - 1) 1 (hello 2 1 64 0) 0
    ∷ []
    ≡ 0 ∷ 1 ∷ 2
    ∷ 3 ∷ 0 ∷ 3
    ∷ 4 ∷ 0 ∷ 4
    ∷ 0 ∷ 5
    ∷ 6 ∷ 0
    ∷ 1 ∷ 2 ∷ 3 ∷ 4 ∷ 5
    ∷ []
unfolding form hello form_of body_form hello_form outside when◌then◌else◌
hellos = refl

of_inputs :
    form seats 1 (inputs 0 1 1) 1 ∷ form (seats - 1) 0 (inputs 0 1 1) 1
    ∷ form 0 1 (inputs 0 1 0) 0 ∷ form 0 1 (inputs 0 1 1) 1 ∷ form 0 1 (inputs 0 1 16) 16 ∷ form 0 1 (inputs 0 1 17) 17
    ∷ form 0 1 (inputs 0 0 1) 0 ∷ form 0 1 (inputs 0 8 1) 8 ∷ form 0 1 (inputs 0 9 1) 9
    ∷ form 0 1 (inputs 0 8 16) 127 ∷ form 0 1 (inputs 0 8 16) 128 ∷ form 0 1 (inputs 0 8 16) 129
    ∷ form 0 1 (inputs 18446744073709551607 8 1) 8 ∷ form 0 1 (inputs 18446744073709551608 8 1) 8
    ∷ form 0 1 (inputs 18446744073709551615 9 17) 1 ∷ form 0 1 (inputs 18446744073709551615 9 16) 1
    ∷ form 0 1 (inputs 18446744073709551615 8 16) 1
    ∷ []
    ≡ 1 ∷ 2
    ∷ 4 ∷ 0 ∷ 0 ∷ 4
    ∷ 7 ∷ 0 ∷ 7
    ∷ 8 ∷ 0 ∷ 8
    ∷ 0 ∷ 9
    ∷ 4 ∷ 7 ∷ 8
    ∷ []
unfolding form inputs form_of body_form inputs_form outside when◌then◌else◌
of_inputs = refl

-- a run beside another kind is not looked at
others :
    form 0 1 (Digest (record { tick = 0; state = 0; input = 0 })) 5 ∷ form 0 1 (Bye (record { tick = 0 })) 5
    ∷ form 0 1 (Other 0) 0 ∷ form 0 1 (Other 1) 0 ∷ form 0 1 (Other 4) 0 ∷ form 0 1 (Other 5) 0
    ∷ form seats 0 (Other 5) 0 ∷ form 0 0 (Other 5) 0 ∷ form seats 0 (Bye (record { tick = 0 })) 0
    ∷ form (seats - 1) 0 (Digest (record { tick = 0; state = 0; input = 0 })) 0
    ∷ []
    ≡ 0 ∷ 0
    ∷ 10 ∷ 0 ∷ 0 ∷ 10
    ∷ 1 ∷ 2 ∷ 1 ∷ 2
    ∷ []
unfolding form form_of body_form other_form outside when◌then◌else◌
others = refl
