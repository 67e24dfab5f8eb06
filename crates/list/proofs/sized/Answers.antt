-- `list::sized` meets its contract. Assumes nothing.
use Rattle.std.proofs.Common.{sym, arith}
use Rattle.list.proofs.SplitLaws.{sized_is, sized_short}
use Rattle.list.proofs.sized.Goals as goal

pub returns-then-field-length : goal.returns-then-field-length
returns-then-field-length c = sym (sized_short _ _ (omega (arith, c.if-field-length.true)))

pub returns : goal.returns
returns c = rw c.word_at.ensures (sym (sized_is _ _ (omega (arith, c.if-field-length.false))))
