-- Worked examples, computed from the definitions: the whole text of a report of four, with its two dissenters, and both
-- sides of the limit of 62. Assumes nothing.
use Prim.Native.Nat.{ℕ}
use mathlib.Core.Path.{◌≡◌, refl}
use mathlib.Core.List.{List, [], ◌∷◌, ◌++◌}
use lib.ListN.{length, replicate}
use Rattle.std.specs.Prelude.{Some, Result, Ok, Err}
use Rattle.logic.specs.Test.{when◌then◌else◌}
use Rattle.peer.specs.Seats.{has, set_of, every, tally, first_seats, removing, is_empty, seat_count}
use Rattle.text.specs.Ascii.{ascii}
use Rattle.text.specs.Decimal.{digits, decimal}
use Rattle.text.specs.Hex.{hex_digit, hex_digits}
use Rattle.text.specs.Text.{join, copy_answer, copy_into}
use Rattle.desync.specs.declared.DesyncReport.{DesyncReport}
use Rattle.desync.specs.declared.WriteError.{WriteError}
use Rattle.desync.specs.declared.WriteError.TheVariants.{NoRoom}
use Rattle.desync.specs.Report.{others_of, differs, dissenters_of, inputs_agree, is_witnessed}
use Rattle.desync.specs.Json.{flag_text, digest_text, seat_digest, tick_text, comma, seat_list, peer_text, peer_list}
use Rattle.desync.specs.Json.{head_text, verdict_text, own_text, lists_text, agreed_text, stats_text, report_text}
use Rattle.desync.specs.Asked.{write_answer, write_into}

-- seats 1 to 3 reported; 1 and 3 have another state than seat 0, whose report it is, and 3 another input
four : DesyncReport
four = record {
  tick = 30;
  local = 0;
  peer_count = 4;
  local_state = 7;
  local_input = 3;
  states_in = 14;
  states = 0 ∷ 9 ∷ 7 ∷ 0xbeef ∷ 0 ∷ 0 ∷ 0 ∷ 0 ∷ [];
  inputs_in = 14;
  inputs = 0 ∷ 3 ∷ 3 ∷ 4 ∷ 0 ∷ 0 ∷ 0 ∷ 0 ∷ [];
  last_agreed = Some 20;
  agreement = 255;
  content = 16;
  rules = 0;
  seed = 18446744073709551615;
  stats = record {
    datagrams_refused = 1;
    frames_repeated = 2;
    frames_contradicted = 0;
    frames_out_of_window = 0;
    digests_contradicted = 0;
    stall_pumps = 10;
  };
}

whole : report_text four
    ≡ join (ascii "{\"schema_version\":1,\"tick\":30,\"local\":0,\"peer_count\":4,"
    ∷ ascii "\"inputs_agree\":false,\"witnessed\":true,"
    ∷ ascii "\"local_state_digest\":\"0x0000000000000007\",\"local_input_digest\":\"0x0000000000000003\","
    ∷ ascii "\"last_agreed_tick\":20,\"dissenters\":[1,3],\"peers\":["
    ∷ ascii "{\"seat\":0,\"state_digest\":null,\"input_digest\":null},"
    ∷ ascii "{\"seat\":1,\"state_digest\":\"0x0000000000000009\",\"input_digest\":\"0x0000000000000003\"},"
    ∷ ascii "{\"seat\":2,\"state_digest\":\"0x0000000000000007\",\"input_digest\":\"0x0000000000000003\"},"
    ∷ ascii "{\"seat\":3,\"state_digest\":\"0x000000000000beef\",\"input_digest\":\"0x0000000000000004\"}],"
    ∷ ascii "\"agreement_digest\":\"0x00000000000000ff\",\"content\":\"0x0000000000000010\","
    ∷ ascii "\"rules\":\"0x0000000000000000\",\"seed\":18446744073709551615,"
    ∷ ascii "\"stats\":{\"datagrams_refused\":1,\"frames_repeated\":2,"
    ∷ ascii "\"frames_contradicted\":0,\"frames_out_of_window\":0,\"digests_contradicted\":0,\"stall_pumps\":10}}"
    ∷ [])
unfolding four report_text head_text verdict_text own_text lists_text agreed_text stats_text flag_text digest_text seat_digest
    tick_text comma seat_list peer_text peer_list others_of differs dissenters_of inputs_agree is_witnessed has set_of every
    tally first_seats removing is_empty seat_count digits decimal hex_digit hex_digits join when◌then◌else◌
whole = refl

-- the text, of 799 bytes, in buffers of one less, just as many and one more
size : length (report_text four) ≡ 799
unfolding join
size = rw whole

room : ℕ → Result ℕ WriteError
room n = write_answer (Ok four) (replicate n 0)

answers : room 798 ∷ room 799 ∷ room 800 ∷ [] ≡ Err NoRoom ∷ Ok 799 ∷ Ok 799 ∷ []
unfolding room write_answer copy_answer when◌then◌else◌
answers = rw size refl

left : ℕ → List ℕ
left n = write_into (Ok four) (replicate n 1)

lent : left 798 ∷ left 800 ∷ [] ≡ replicate 798 1 ∷ (report_text four ++ 1 ∷ []) ∷ []
unfolding left write_into copy_into when◌then◌else◌
lent = rw size refl
