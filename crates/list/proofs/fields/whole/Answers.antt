-- `list::fields::whole` meets its contract. Assumes nothing.
use Rattle.std.proofs.Common.{sym, ◌∙◌, arith}
use Rattle.list.proofs.FieldLaws.{whole_is, whole_short}
use Rattle.list.proofs.fields.whole.Goals as goal

pub returns-then-field-end : goal.returns-then-field-end
returns-then-field-end c = sym (whole_short _ (omega (arith, c.body_length-end.ensures.0, c.if-field-end.true)))

pub returns : goal.returns
returns c = c.headed.ensures ∙ sym (whole_is _ (omega (arith, c.body_length-end.ensures.0, c.if-field-end.false)))
