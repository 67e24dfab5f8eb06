-- `marks::rows::mark_writes` meets its contract: one turn of the loop is one field. Assumes nothing.
use Rattle.std.proofs.Common.{refl, ◌∙◌, arith}
use Rattle.numbers.specs.Rest.{rest_some, rest_none}
use Rattle.marks.proofs.Turns.{end_marks, first_whole, first_header, first_low, first_fits, rest_less, rest_readable, turn_marks}
use Rattle.marks.proofs.rows.mark_writes.Goals as goal

pub loop-rest-init : goal.loop-rest-init
loop-rest-init c = (refl, c.requires, refl)

pub mark_field-requires : goal.mark_field-requires
mark_field-requires c = first_whole c.loop-rest.rest.now (rest_some _ c.is_empty.ensures c.loop-rest-test.true) c.loop-rest.invariant.1

pub bounds-rest-2 : goal.bounds-rest-2
bounds-rest-2 c =
    let l = c.loop-rest in
    first_header l.rest.now (rest_some _ c.is_empty.ensures c.loop-rest-test.true) l.invariant.1

pub overflow_cast-size : goal.overflow_cast-size
overflow_cast-size c =
    let l = c.loop-rest in
    omega (arith, first_low l.rest.now (rest_some _ c.is_empty.ensures c.loop-rest-test.true) l.invariant.1)

pub overflow_add-size : goal.overflow_add-size
overflow_add-size c =
    let l = c.loop-rest in
    omega (arith, first_low l.rest.now (rest_some _ c.is_empty.ensures c.loop-rest-test.true) l.invariant.1)

pub slice_bounds-rest-count : goal.slice_bounds-rest-count
slice_bounds-rest-count c =
    let l = c.loop-rest in
    first_fits l.rest.now (rest_some _ c.is_empty.ensures c.loop-rest-test.true) l.invariant.1 _ refl

pub slice_bounds-rest-start : goal.slice_bounds-rest-start
slice_bounds-rest-start c =
    let l = c.loop-rest in
    first_fits l.rest.now (rest_some _ c.is_empty.ensures c.loop-rest-test.true) l.invariant.1 _ refl

pub loop-rest-smaller : goal.loop-rest-smaller
loop-rest-smaller c =
    let l = c.loop-rest in
    rest_less l.rest.now (rest_some _ c.is_empty.ensures c.loop-rest-test.true) l.invariant.1 _ refl

pub loop-rest-preserved : goal.loop-rest-preserved
loop-rest-preserved c =
    let l = c.loop-rest in (
      c.mark_field.auto.marks ∙ l.invariant.0,
      rest_readable l.rest.now (rest_some _ c.is_empty.ensures c.loop-rest-test.true) l.invariant.1 _ refl,
      turn_marks l.rest.now (rest_some _ c.is_empty.ensures c.loop-rest-test.true) l.invariant.1 _ refl l.marks _ c.mark_field.ensures ∙ l.invariant.2,
    )

pub shape_of-marks : goal.shape_of-marks
shape_of-marks c = c.loop-rest.invariant.0

pub returns : goal.returns
returns c = end_marks c.loop-rest.rest.now c.loop-rest.marks (omega (arith, rest_none _ c.is_empty.ensures c.loop-rest-test.false)) ∙ c.loop-rest.invariant.2
