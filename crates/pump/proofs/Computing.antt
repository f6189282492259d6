-- What a pump computes with, as one name to unfold: under `unfolding pumping` a proof computes a pump or a call of the
-- host. Assumes nothing.
use Rattle.session.proofs.Computing.{hosting}
use Rattle.pump.specs.Pump.{next_remote, target_of, span, carried, no_run, run_byte, run_from, run_of, hello_of}
use Rattle.pump.specs.Pump.{inputs_of, digest_of, saying, addressed, say_to, say, first_kind, quiet, pass_ends}
use Rattle.pump.specs.Pump.{run_beside, send, sent, pump_digest, pump_inputs, pump_hello, pump_bye, pump_from}
use Rattle.pump.specs.Pump.{pump_head, pump}

unfoldable pub pumping : Unit {0}
unfolding hosting next_remote target_of span carried no_run run_byte run_from run_of hello_of inputs_of digest_of
    saying addressed say_to say first_kind quiet pass_ends run_beside send sent
    pump_digest pump_inputs pump_hello pump_bye pump_from pump_head pump
pumping = tt
