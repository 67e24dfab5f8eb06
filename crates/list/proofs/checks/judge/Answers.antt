-- `list::checks::judge` meets its contract. Assumes nothing.
use Rattle.std.proofs.Common.{sym, ◌∙◌, arith}
use Rattle.list.proofs.VerdictLaws.{number_not}
use Rattle.list.proofs.FieldLaws.{whole_length}
use Rattle.list.proofs.Turns.{number_of_body}
use Rattle.list.proofs.checks.judge.Goals as goal

pub slice_bounds-judge_body-end : goal.slice_bounds-judge_body-end
slice_bounds-judge_body-end c =
    omega (arith, whole_length c.args.field.now (sym c.whole.ensures ∙ c.if-whole.true), c.body_length-end.ensures.0)

pub returns-then-whole : goal.returns-then-whole
returns-then-whole c =
    c.judge_body.ensures
    ∙ number_of_body _ _ c.args.field.now c.body_length-end.result c.body_length-end.ensures.0 (sym c.whole.ensures ∙ c.if-whole.true)

pub returns-else-whole : goal.returns-else-whole
returns-else-whole c = sym (number_not _ (sym c.whole.ensures ∙ c.if-whole.false) _ _)
