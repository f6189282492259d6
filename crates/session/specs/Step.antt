-- Document 01, "Step and commit".
-- Assumes nothing.
use Rattle.std.specs.Prelude.{ℕ, ◌%◌, Bool, not, List, Option, None, Some, Ok, Err, eqb, replicate}
use Rattle.logic.specs.Test.{when◌then◌else◌}
use Rattle.logic.specs.Saturating.{most, raised}
use Rattle.peer.specs.Seats.{seats, less}
use Rattle.params.specs.Params.{max_width, bad_state, roster_of, remotes_of}
use Rattle.window.specs.Window.{held_by}
use Rattle.window.specs.declared.Window.{Window}
use Rattle.rows.specs.Rows.{rows_of, step_digest}
use Rattle.fingerprint.specs.Cells.{with_own}
use Rattle.fingerprint.specs.Judging.{parted}
use Rattle.fingerprint.specs.declared.Fingerprint.{Fingerprint}
use Rattle.stats.specs.Stats.{stalled_of}
use Rattle.session.specs.declared.Outcome.{Outcome}
use Rattle.session.specs.declared.Outcome.TheVariants.{Desynced, PeerLeft, LeftLocally}
use Rattle.session.specs.declared.Outstanding.{Outstanding}
use Rattle.session.specs.declared.Play.{Play}
use Rattle.session.specs.declared.Head.{Head}
use Rattle.session.specs.declared.Session.{Session}
use Rattle.session.specs.declared.Advance.{Advance}
use Rattle.session.specs.declared.Advance.TheVariants as Advance'
use Rattle.session.specs.declared.Advanced.{Advanced}
use Rattle.session.specs.declared.CommitError.TheVariants as Commit'
use Rattle.session.specs.declared.Answered.{Answered}
use Rattle.session.specs.Session.{session_of, with_head, session_with, with_play, with_owed, with_stats, every_seat}
use Rattle.session.specs.Session.{ended}
use Rattle.session.specs.Numbers.{Commit}

-- ---- advance: the head goes by the seats that are held for the pending tick, and by their frames as rows

unfoldable pub no_rows : List (List ℕ)
no_rows = replicate seats (replicate max_width 0)

pub record HeadAdvanced : Type 0 where
  pub head : Head
  pub answer : Advance
  pub frames : List (List ℕ)

abbrev pub beside : Head → Advance → List (List ℕ) → HeadAdvanced
beside h answer rows = record { head = h; answer = answer; frames = rows }

-- an answer that is no step
abbrev pub idle : Head → Advance → HeadAdvanced
idle h answer = beside h answer no_rows

-- a digest is due when tick mod period is 0, tick 0 included
abbrev pub is_due : Head → Bool
is_due h = eqb (h.play.pending % h.params.period) 0

-- a step hashes its tick, then frames by rising seat; it is out until it is committed, and the last stalled tick starts
-- anew
unfoldable pub stepped : Head → List (List ℕ) → Head
stepped h rows = with_play h (record {
  pending = h.play.pending;
  next_local = h.play.next_local;
  digest = step_digest h.play.digest h.play.pending h.params.count h.params.width rows;
  step = Some (record { tick = h.play.pending; due = is_due h });
  stalled = most;
})

-- its frames go out as eight rows
unfoldable pub take_step : Head → List (List ℕ) → HeadAdvanced
take_step h rows =
    beside (stepped h rows)
    (Advance'.Step (record {
      tick = h.play.pending;
      due = is_due h;
      count = h.params.count;
      width = h.params.width;
    }))
    rows

-- stalled with the missing seats and a count, raised by one, from 0 if the tick isn't the last stalled one
unfoldable pub stall : Head → (held : ℕ) → HeadAdvanced
stall h held =
    let counters = stalled_of h.stats (eqb h.play.stalled h.play.pending) in
    let at : Play = record {
      pending = h.play.pending;
      next_local = h.play.next_local;
      digest = h.play.digest;
      step = h.play.step;
      stalled = h.play.pending;
    } in
    idle (with_stats (with_play h at) counters)
    (Advance'.Stalled h.play.pending (less seats (roster_of h.params) held) counters.stall_pumps)

-- after an outcome that is no desync, the ticks that every seat is held for are still played
unfoldable pub drain : Head → (held : ℕ) → List (List ℕ) → Outcome → HeadAdvanced
drain h held rows o = when every_seat h held then take_step h rows else idle h (Advance'.Ended o)

unfoldable pub play_on : Head → (held : ℕ) → List (List ℕ) → HeadAdvanced
play_on h held rows =
    when not h.marks.started then idle h Advance'.Waiting
    else when every_seat h held then take_step h rows
    else stall h held

-- desynced, ended; no outcome and not playing, waiting; every seat held, step; outcome, ended; else stalled
unfoldable pub advance_by : Head → (held : ℕ) → List (List ℕ) → Option Outcome → HeadAdvanced
advance_by h held rows (Some (Desynced tick)) = idle h (Advance'.Ended (Desynced tick))
advance_by h held rows (Some (PeerLeft peer tick)) = drain h held rows (PeerLeft peer tick)
advance_by h held rows (Some (LeftLocally tick)) = drain h held rows (LeftLocally tick)
advance_by h held rows None = play_on h held rows

-- step outstanding, waiting; else by the outcome
unfoldable pub advance_from : Head → (held : ℕ) → List (List ℕ) → Option Outstanding → HeadAdvanced
advance_from h held rows (Some out) = idle h Advance'.Waiting
advance_from h held rows None = advance_by h held rows h.outcome

unfoldable pub advance_head : Head → (held : ℕ) → List (List ℕ) → HeadAdvanced
advance_head h held rows =
    when bad_state h.params then idle h Advance'.BadState else advance_from h held rows h.play.step

-- the frames of the pending tick, as eight rows of sixteen bytes
abbrev pub step_rows : Head → Window → List (List ℕ)
step_rows h w = rows_of w h.play.pending h.params.count h.params.width

abbrev pub advanced_with : Session → Advance → List (List ℕ) → Advanced
advanced_with s answer rows = record { session = s; answer = answer; frames = rows }

abbrev pub advanced : Session → HeadAdvanced → Advanced
advanced s r = advanced_with (with_head s r.head) r.answer r.frames

unfoldable pub advance : Session → Advanced
advance s =
    advanced s (advance_head s.head (held_by s.window s.head.play.pending) (step_rows s.head s.window))

-- ---- commit

-- pending rises by one, and no step is out
unfoldable pub played : Head → Head
played h = with_play h (record {
  pending = raised h.play.pending;
  next_local = h.play.next_local;
  digest = h.play.digest;
  step = None;
  stalled = h.play.stalled;
})

-- a difference ends the session as desynced at that tick
unfoldable pub judge : Session → ℕ → Session
judge s tick =
    when parted s.prints (remotes_of s.head.params) tick
    then with_head s (ended s.head (Desynced tick))
    else s

-- one's own print goes in its cell and is owed to the pump
abbrev pub kept : Session → Fingerprint → Session
kept s f = session_of (with_owed s.head (Some f)) s.window (with_own s.prints f)

-- and is judged
unfoldable pub keep_digest : Session → ℕ → Option ℕ → Session
keep_digest s tick None = s
keep_digest s tick (Some state) =
    judge (kept s (record { tick = tick; state = state; input = s.head.play.digest })) tick

-- due differs from given
abbrev pub mismatch : Bool → Option ℕ → Bool
mismatch due None = due
mismatch due (Some state) = not due

-- no step outstanding, 51 expecting pending; another tick, 51; due differs from given, 52; then pending rises by one,
-- and a digest is kept
unfoldable pub commit_from : Session → ℕ → Option ℕ → Option Outstanding → Answered Commit
commit_from s tick given None = session_with s (Err (Commit'.OutOfOrder tick s.head.play.pending))
commit_from s tick given (Some out) =
    when not (eqb tick out.tick) then session_with s (Err (Commit'.OutOfOrder tick out.tick))
    else when mismatch out.due given then session_with s (Err (Commit'.DigestMismatch tick out.due))
    else session_with (keep_digest (with_head s (played s.head)) tick given) (Ok tt)

unfoldable pub commit : Session → ℕ → Option ℕ → Answered Commit
commit s tick given =
    when bad_state s.head.params then session_with s (Err Commit'.BadState)
    else commit_from s tick given s.head.play.step
