-- `deliver::from_header` meets its contract: each return goes by the tests on its way. Assumes nothing.
use borrow.Author.Tests.{eq-eqb, ne_eqb}
use Rattle.logic.specs.Test.{when◌then◌else◌}
use Rattle.deliver.specs.Deliver.{from_header}
use Rattle.deliver.proofs.from_header.Goals as goal

pub returns-then-message-params : goal.returns-then-message-params
unfolding from_header when◌then◌else◌
returns-then-message-params c = rw (ne_eqb _ _ c.if-message-params.true, ← c.refuse.ensures)

pub returns-then-sender-source : goal.returns-then-sender-source
unfolding from_header when◌then◌else◌
returns-then-sender-source c =
    rw (
      eq-eqb _ _ c.if-message-params.false,
      ne_eqb _ _ c.if-sender-source.true,
      ← c.refuse-then-sender-source.ensures,
    )

pub returns-then-sender-params : goal.returns-then-sender-params
unfolding from_header when◌then◌else◌
returns-then-sender-params c =
    rw (
      eq-eqb _ _ c.if-message-params.false,
      eq-eqb _ _ c.if-sender-source.false,
      eq-eqb _ _ c.if-sender-params.true,
      ← c.refuse-then-sender-params.ensures,
    )

pub returns-then-not-contains : goal.returns-then-not-contains
unfolding from_header when◌then◌else◌
returns-then-not-contains c =
    rw (
      eq-eqb _ _ c.if-message-params.false,
      eq-eqb _ _ c.if-sender-source.false,
      ne_eqb _ _ c.if-sender-params.false,
      ← c.roster.ensures,
      ← c.contains.ensures,
      c.if-not-contains.true,
      ← c.refuse-then-not-contains.ensures,
    )

pub returns : goal.returns
unfolding from_header when◌then◌else◌
returns c =
    rw (
      eq-eqb _ _ c.if-message-params.false,
      eq-eqb _ _ c.if-sender-source.false,
      ne_eqb _ _ c.if-sender-params.false,
      ← c.roster.ensures,
      ← c.contains.ensures,
      c.if-not-contains.false,
    ) c.accept.ensures
