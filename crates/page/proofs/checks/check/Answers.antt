-- `page::checks::check` meets its contract. Assumes nothing.
use Rattle.std.proofs.Common.{refl, ap, ◌∙◌, ℕ, arith}
use Rattle.std.proofs.lemmas.Result.{err_from_is_err_and}
use Rattle.numbers.specs.Rest.{rest_some, rest_none}
use Rattle.numbers.specs.RefusalLaws.{number_not_zero}
use Rattle.list.specs.Meaning.{bad}
use Rattle.page.proofs.Turns.{rest_within, end_check, turn_bad, turn_fits, turn_good}
use Rattle.page.proofs.checks.check.Goals as goal

pub returns-in_err-counts : goal.returns-in_err-counts
returns-in_err-counts c =
    let l = c.loop-rest in
    let q = c.requires in
    let p = err_from_is_err_and c.from_residual.result c.from_residual.ensures.1 in
    rw (p.1, p.2)
    (turn_bad _ q.0 q.1 _ l.left l.rest.now (rest_some _ c.is_empty.ensures c.loop-rest-test.true) _ _ c.in_err-counts.ensures.place (number_not_zero _)
    ∙ l.invariant.1)

pub slice_bounds-rest-count : goal.slice_bounds-rest-count
slice_bounds-rest-count c =
    let l = c.loop-rest in
    let q = c.requires in
    turn_fits _ q.0 q.1 0 l.left l.rest.now _ c.in_ok-counts.ensures.fill refl

pub slice_bounds-rest-start : goal.slice_bounds-rest-start
slice_bounds-rest-start c =
    let l = c.loop-rest in
    let q = c.requires in
    omega (arith, turn_fits _ q.0 q.1 0 l.left l.rest.now _ c.in_ok-counts.ensures.fill refl)

pub loop-rest-preserved : goal.loop-rest-preserved
loop-rest-preserved c =
    let l = c.loop-rest in
    let q = c.requires in (
      rest_within l.rest.now _ l.invariant.0,
      turn_good _ q.0 q.1 _ l.left l.rest.now _ c.in_ok-counts.ensures.fill refl _ l.invariant.0 c.take_room-left.result c.take_room-left.ensures
          ∙ l.invariant.1,
    )

pub returns-in_err-end : goal.returns-in_err-end
returns-in_err-end c =
    let l = c.loop-rest in
    let q = c.requires in
    let p = err_from_is_err_and c.from_residual-in_err-end.result c.from_residual-in_err-end.ensures.1 in
    rw (p.1, p.2)
    (ap (λ (n : ℕ). bad n 0) c.in_err-end.ensures
    ∙ end_check _ q.0 q.1 _ l.left l.rest.now (rest_none _ c.is_empty.ensures c.loop-rest-test.false) _
    ∙ l.invariant.1)

pub returns : goal.returns
returns c =
    let l = c.loop-rest in
    let q = c.requires in
    ap (λ (n : ℕ). bad n 0) c.in_ok-end.ensures
    ∙ end_check _ q.0 q.1 _ l.left l.rest.now (rest_none _ c.is_empty.ensures c.loop-rest-test.false) _
    ∙ l.invariant.1
