-- `page::checks::measure_field` meets its contract. Assumes nothing.
use Rattle.std.proofs.Common.{sym, ap, ◌∙◌, arith}
use Rattle.planner.specs.Calls.{measure_call}
use Rattle.page.specs.declared.Rectangle.{Rectangle}
use Rattle.page.specs.Rectangles.{fill_of}
use Rattle.page.specs.RectangleLaws.{whole_length, item_whole, item_not}
use Rattle.page.specs.Calls.{measured}
use Rattle.page.proofs.checks.measure_field.Goals as goal

pub slice_bounds-rectangle_of-end : goal.slice_bounds-rectangle_of-end
slice_bounds-rectangle_of-end c = omega (arith, whole_length _ (sym c.whole.ensures ∙ c.if-whole.true))

pub returns-then-whole : goal.returns-then-whole
unfolding measured
returns-then-whole c =
    let a = c.args in
    c.measure.ensures
    ∙ ap measure_call c.fill.ensures
    ∙ ap (λ (x : Rectangle). measure_call (fill_of a.rows x)) c.rectangle_of.ensures
    ∙ sym (ap (measured a.rows) (item_whole a.field.now (sym c.whole.ensures ∙ c.if-whole.true)))

pub returns-else-whole : goal.returns-else-whole
unfolding measured
returns-else-whole c =
    let a = c.args in
    sym (ap (measured a.rows) (item_not a.field.now (sym c.whole.ensures ∙ c.if-whole.false)))
