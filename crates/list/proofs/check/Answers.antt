-- `list::check` meets its contract: one turn of the loop is one field judged. Assumes nothing.
use Rattle.std.proofs.Common.{ap, ◌∙◌, arith}
use Rattle.std.specs.Prelude.{Result}
use Rattle.std.specs.Result.{result_and}
use Rattle.list.specs.declared.Refused.{Refused}
use Rattle.list.specs.Meaning.{bad_of}
use Rattle.numbers.specs.Rest.{rest_some, rest_none}
use Rattle.numbers.specs.RefusalLaws.{number_not_zero}
use Rattle.list.proofs.Turns.{fill_loads, fill_opens, end_check, turn_bad, turn_fits, turn_good, rest_within}
use Rattle.list.proofs.check.Goals as goal
use Rattle.list.proofs.check.Goals.{then-tag-gt3, else-tag-gt3, then-is_empty, else-is_empty+in-Err}

pub slice_bounds-rest-count : goal.slice_bounds-rest-count
slice_bounds-rest-count c = turn_fits _ _ c.loop-rest.left c.loop-rest.rest.now _ c.in_default.ensures c.body_length.result c.body_length.ensures.0

pub slice_bounds-rest-start : goal.slice_bounds-rest-start
slice_bounds-rest-start c =
    omega (arith, turn_fits _ _ c.loop-rest.left c.loop-rest.rest.now _ c.in_default.ensures c.body_length.result c.body_length.ensures.0)

pub loop-rest-preserved : goal.loop-rest-preserved
loop-rest-preserved c =
    let l = c.loop-rest in
    let made = c.if-tag-gt3.made in
    let left = c.if-tag-gt3.left in
    let good = turn_good _ _ l.left l.rest.now _ c.in_default.ensures c.body_length.result c.body_length.ensures.0 _ l.invariant.0 made left in (
      rest_within l.rest.now c.body_length.result c.body_length.ensures.0 _ l.invariant.0,
      (elim c.if-tag-gt3.branch [
        | then-tag-gt3 w ↦ good w.made-is (w.left-is ∙ w.opens-left.ensures)
        | else-tag-gt3 w ↦ good (w.made-is ∙ fill_loads _ _ w.if-tag-gt3.false) (w.left-is ∙ fill_opens _ _ _ w.if-tag-gt3.false)
      ])
          ∙ l.invariant.1,
    )

pub returns : goal.returns
returns c =
    let l = c.loop-rest in
    let both = λ (bad : Result _ Refused). bad_of (result_and bad c.left_behind.result) in
    (elim c.if-is_empty.branch [
      | then-is_empty x ↦
          end_check _ _ l.left l.rest.now _ _ (rest_none _ c.is_empty.ensures x.if-is_empty.true)
          (ap bad_of c.and.ensures ∙ ap both x.bad-is ∙ c.left_behind.ensures)
      | else-is_empty+in-Err y ↦
          ap bad_of c.and.ensures
          ∙ ap both y.bad-is
          ∙ turn_bad _ _ l.left l.rest.now _ _ (rest_some _ c.is_empty.ensures y.if-is_empty.false) (number_not_zero _) y.in-Err.ensures
    ])
    ∙ l.invariant.1
