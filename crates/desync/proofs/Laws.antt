-- Document 01: a report's text is "at most 2,048 bytes". Its numbers are u64 and bytes; then none is longer than
-- `report_most`, so none is cut. Assumes nothing.
use Prim.Native.Nat.{ℕ, zero, suc, ◌+◌, ◌*◌, ◌^◌, ◌≤◌, ◌<◌, min}
use mathlib.Core.Path.{◌≡◌, sym, ◌∙◌}
use mathlib.Core.Bool.{Bool, true, false}
use mathlib.Core.List.{List, []}
use native.Mathlib.Omega.{arith}
use lib.ListN.{length}
use Rattle.logic.proofs.Cases.{by_test}
use Rattle.peer.specs.Seats.{seats, seat_count}
use Rattle.std.specs.Prelude.{Option, None, Some, Result}
use Rattle.stats.specs.declared.SessionStats.{SessionStats}
use Rattle.text.specs.Decimal.{decimal}
use Rattle.text.specs.Text.{put}
use Rattle.text.proofs.Writing.{join-length, put_front}
use Rattle.text.proofs.Decimals.{decimal-length}
use Rattle.text.proofs.Hexes.{hex_length}
use Rattle.desync.specs.declared.DesyncReport.{DesyncReport}
use Rattle.desync.specs.declared.ReportError.{ReportError}
use Rattle.desync.specs.declared.WriteError.{WriteError}
use Rattle.desync.specs.Asked.{WritesAs}
use Rattle.desync.specs.Report.{dissenters_of, inputs_agree, is_witnessed}
use Rattle.desync.specs.Json.{report_most, flag_text, digest_text, seat_digest, tick_text, comma, seat_list, peer_text}
use Rattle.desync.specs.Json.{peer_list, head_text, verdict_text, own_text, lists_text, agreed_text, stats_text}
use Rattle.desync.specs.Json.{report_text}

-- ---- what a record's types say of its numbers

-- a last tick is at most twenty digits
abbrev pub TickSized : Option ℕ → Type 0
TickSized None = Unit
TickSized (Some tick) = tick < 2 ^ 64

pub record StatsSized (s : SessionStats) : Type 0 where
  pub refused : s.datagrams_refused < 2 ^ 64
  pub repeated : s.frames_repeated < 2 ^ 64
  pub contradicted : s.frames_contradicted < 2 ^ 64
  pub outside : s.frames_out_of_window < 2 ^ 64
  pub digests : s.digests_contradicted < 2 ^ 64
  pub stalls : s.stall_pumps < 2 ^ 64

pub record Sized (r : DesyncReport) : Type 0 where
  pub tick : r.tick < 2 ^ 64
  pub local : r.local < 2 ^ 8
  pub count : r.peer_count < 2 ^ 8
  -- by `tick_length` so, where the last tick is a u64
  pub last : length (tick_text r.last_agreed) ≤ 20
  pub seed : r.seed < 2 ^ 64
  pub stats : StatsSized r.stats

-- ---- values

u64-length : (n : ℕ) → n < 2 ^ 64 → length (decimal n) ≤ 20
u64-length n h = decimal-length 19 n (omega arith)

byte_length : (n : ℕ) → n < 2 ^ 8 → length (decimal n) ≤ 3
byte_length n h = decimal-length 2 n (omega arith)

pub tick_length : (last : Option ℕ) → TickSized last → length (tick_text last) ≤ 20
unfolding tick_text
tick_length None h = omega arith
tick_length (Some tick) h = u64-length tick h

flag_length : (b : Bool) → length (flag_text b) ≤ 5
unfolding flag_text
flag_length true = omega arith
flag_length false = omega arith

digest_length : (n : ℕ) → length (digest_text n) ≡ 20
unfolding digest_text
digest_length n = rw join-length (omega (arith, hex_length 16 n))

seat_digest_length : (there : ℕ) (numbers : List ℕ) (k : ℕ) → length (seat_digest there numbers k) ≤ 20
unfolding seat_digest
seat_digest_length there numbers k =
    by_test (λ (text : List ℕ). length text ≤ 20) (λ _. rw digest_length (omega arith)) (λ _. omega arith)

-- ---- lists

comma-length : (position : ℕ) → length (comma position) ≤ 1
unfolding comma
comma-length zero = omega arith
comma-length (suc position) = omega arith

list_length : (set k : ℕ) → k ≤ seats → length (seat_list set k) ≤ 4 * k
unfolding seat_list
list_length set zero h = omega arith
list_length set (suc k) h =
    let shorter = list_length set k (omega arith) in
    by_test (λ (text : List ℕ). length text ≤ 4 * suc k)
    (λ _. rw join-length (omega (arith, comma-length (seat_count k set), byte_length k (omega arith))))
    (λ _. omega arith)

peer_length : (r : DesyncReport) (k : ℕ) → k < seats → length (peer_text r k) ≤ 85
unfolding peer_text
peer_length r k h =
    rw join-length
    (omega (
      arith,
      comma-length k,
      byte_length k (omega arith),
      seat_digest_length r.states_in r.states k,
      seat_digest_length r.inputs_in r.inputs k,
    ))

peers_length : (r : DesyncReport) (k : ℕ) → k ≤ seats → length (peer_list r k) ≤ 85 * k
unfolding peer_list
peers_length r zero h = omega arith
peers_length r (suc k) h = rw join-length (omega (arith, peers_length r k (omega arith), peer_length r k h))

-- ---- the fields

module _ (r : DesyncReport) (h : Sized r) where
  head_length : length (head_text r) ≤ 76
  unfolding head_text
  head_length =
      rw join-length
      (omega (
        arith,
        u64-length r.tick h.tick,
        byte_length r.local h.local,
        byte_length r.peer_count h.count,
      ))

  verdict_length : length (verdict_text r) ≤ 39
  unfolding verdict_text
  verdict_length = rw join-length (omega (arith, flag_length (inputs_agree r), flag_length (is_witnessed r)))

  own-length : length (own_text r) ≤ 124
  unfolding own_text
  own-length = rw join-length (omega (arith, digest_length r.local_state, digest_length r.local_input))

  lists_length : length (lists_text r) ≤ 26 + 89 * seats
  unfolding lists_text
  lists_length =
      rw join-length
      (omega (
        arith,
        list_length (dissenters_of r) seats (omega arith),
        peers_length r (min r.peer_count seats) (omega arith),
      ))

  agreed_length : length (agreed_text r) ≤ 129
  unfolding agreed_text
  agreed_length =
      rw join-length
      (omega (
        arith,
        digest_length r.agreement,
        digest_length r.content,
        digest_length r.rules,
        u64-length r.seed h.seed,
      ))

  stats_length : length (stats_text r.stats) ≤ 257
  unfolding stats_text
  stats_length =
      let s = r.stats in
      let n = h.stats in
      rw join-length
      (omega (
        arith,
        u64-length s.datagrams_refused n.refused,
        u64-length s.frames_repeated n.repeated,
        u64-length s.frames_contradicted n.contradicted,
        u64-length s.frames_out_of_window n.outside,
        u64-length s.digests_contradicted n.digests,
        u64-length s.stall_pumps n.stalls,
      ))

  pub report_length : length (report_text r) ≤ report_most
  unfolding report_text
  report_length =
      rw join-length (omega (arith, head_length, verdict_length, own-length, lists_length, agreed_length, stats_length))

  -- so what is written on an empty text is the report, whole
  pub report_whole : put [] (report_text r) ≡ report_text r
  report_whole = put_front (report_text r) (omega (arith, report_length))

-- the promise fixes the answer and every lent byte: two that meet it are equal
pub writes_one : {found : Result DesyncReport ReportError} {out : List ℕ} {a b : Result ℕ WriteError} {after other : List ℕ}
    → WritesAs found out a after → WritesAs found out b other → (a ≡ b) × (after ≡ other)
writes_one x y = (x.answered ∙ sym y.answered, x.lent ∙ sym y.lent)
