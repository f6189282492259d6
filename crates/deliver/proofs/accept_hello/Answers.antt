-- `deliver::accept_hello` meets its contract. Assumes nothing.
use borrow.Author.Tests.{eq-eqb, ne_eqb}
use mathlib.Core.Path.{sym, ◌∙◌}
use Rattle.logic.specs.Test.{when◌then◌else◌}
use Rattle.session.specs.Session.{started}
use Rattle.deliver.specs.Deliver.{accept_hello, greeted}
use Rattle.deliver.proofs.accept_hello.Goals as goal

pub returns-then-hello-ours : goal.returns-then-hello-ours
unfolding accept_hello when◌then◌else◌
returns-then-hello-ours c = rw (← c.agreement-ours.ensures, ne_eqb _ _ c.if-hello-ours.true, ← c.refuse.ensures)

pub returns-then-starts : goal.returns-then-starts
unfolding accept_hello greeted started when◌then◌else◌
returns-then-starts c =
    rw (
      ← c.agreement-ours.ensures,
      eq-eqb _ _ c.if-hello-ours.false,
      ← c.with.ensures,
      ← c.bits-head.ensures,
      sym c.starts.ensures ∙ c.if-starts.true,
    )

pub returns-else-starts : goal.returns-else-starts
unfolding accept_hello greeted started when◌then◌else◌
returns-else-starts c =
    rw (
      ← c.agreement-ours.ensures,
      eq-eqb _ _ c.if-hello-ours.false,
      ← c.with.ensures,
      ← c.bits-head.ensures,
      sym c.starts.ensures ∙ c.if-starts.false,
    )
