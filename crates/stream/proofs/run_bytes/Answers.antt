-- `stream::run_bytes` meets its contract: one piece, before which nothing has begun. Assumes nothing.
use Rattle.std.proofs.Common.{[], length, ap, sym, ◌∙◌}
use Rattle.runner.specs.Script.{from}
use Rattle.stream.specs.Stream.{reading_of, Reads}
use Rattle.stream.proofs.run_bytes.Goals as goal
use Rattle.stream.proofs.run_bytes.Goals.{Then-run_piece}

ran : (c : Then-run_piece) → Reads c.args.form (reading_of c.args.s.now [] []) c.args.bytes.now c.run_piece.new.s
    c.run_piece.new.self.begun
ran c = rw c.new-reader.ensures at (c.run_piece.ensures c.if-run_piece.true)

pub returns-then-run_piece-clause-session : goal.returns-then-run_piece-clause-session
unfolding from
returns-then-run_piece-clause-session c = (ran (goal.at.returns-then-run_piece-clause-session c).Then-run_piece).next

pub returns-then-run_piece-clause-have : goal.returns-then-run_piece-clause-have
unfolding from
returns-then-run_piece-clause-have c =
    ap length (ran (goal.at.returns-then-run_piece-clause-have c).Then-run_piece).rest ∙ sym c.len.ensures.length
