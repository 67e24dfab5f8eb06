-- `list::fields::waits` meets its contract. Assumes nothing.
use Rattle.std.proofs.Common.{le-leb}
use borrow.Author.Tests.{lt-leb}
use Rattle.list.specs.Waits.{waits}
use Rattle.list.proofs.fields.waits.Goals as goal

pub returns-then-field-lt3 : goal.returns-then-field-lt3
unfolding waits
returns-then-field-lt3 c = rw (lt-leb _ _ c.if-field-lt3.true)

pub returns : goal.returns
unfolding waits
returns c = rw (le-leb _ _ c.if-field-lt3.false, c.headed.ensures, c.body_length-size.ensures.0)
