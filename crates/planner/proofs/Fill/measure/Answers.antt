-- `planner::Fill::measure` meets its contract. Assumes nothing.
use Rattle.std.proofs.Common.{ap, ◌∙◌}
use Rattle.std.proofs.lemmas.Result.{err_from_is_err_and}
use Rattle.planner.specs.Shapes.{shape_answer}
use Rattle.planner.proofs.ShapeLaws.{shape_answers, shape_known, shape_most}
use Rattle.planner.proofs.Fill.measure.Goals as goal

pub returns-in_err-shape : goal.returns-in_err-shape
unfolding shape_answer
returns-in_err-shape c =
    let p = err_from_is_err_and c.from_residual.result c.from_residual.ensures.1 in
    rw (p.1, p.2) (ap shape_answer c.in_err-shape.ensures ∙ shape_answers c.args.self)

pub counts-requires : goal.counts-requires
counts-requires c = shape_most c.args.self _ (shape_known c.args.self _ c.in_ok-shape.ensures)

pub returns : goal.returns
returns c = c.counts.ensures ∙ ap shape_answer c.in_ok-shape.ensures ∙ shape_answers c.args.self
