-- What a delivery computes with, as one name to unfold: under `unfolding delivering` a proof computes a delivery or a
-- call of the host. Assumes nothing.
use Rattle.wire.specs.Wire.{hello_form, inputs_form, body_form, form_of}
use Rattle.logic.specs.Saturating.{sum}
use Rattle.window.specs.Absorb.{same_bytes, absorb_one, frame_at, absorb_first, absorb_inputs}
use Rattle.fingerprint.specs.Judging.{arrival_by, arrival}
use Rattle.stats.specs.Stats.{raised_if, counted_of, repeated_of}
use Rattle.session.proofs.Computing.{hosting}
use Rattle.deliver.specs.Deliver.{refused, end_with, greeted, accept_hello, marked, note_answer, noted}
use Rattle.deliver.specs.Deliver.{frames_noted, frames_taken, absorb, judged, hear_by, hear}
use Rattle.deliver.specs.Deliver.{accept, from_header, deliver_form, deliver_by, deliver}

unfoldable pub delivering : Unit {0}
unfolding hosting sum hello_form inputs_form body_form form_of
    same_bytes absorb_one frame_at absorb_first absorb_inputs arrival_by arrival raised_if counted_of repeated_of
    refused end_with greeted accept_hello marked note_answer noted frames_noted frames_taken absorb judged hear_by hear
    accept from_header deliver_form deliver_by deliver
delivering = tt
