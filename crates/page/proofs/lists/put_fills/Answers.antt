-- `page::lists::put_fills` meets its contract. The invariant: what is still to be put makes the whole. Assumes nothing.
use Rattle.std.proofs.Common.{refl, ◌∙◌, ◌≤◌, ◌+◌, arith, length}
use Rattle.numbers.specs.Rest.{rest_some, rest_none}
use Rattle.numbers.specs.RefusalLaws.{number_not_zero}
use Rattle.list.proofs.EncodeLaws.{count_within}
use Rattle.page.specs.Calls.{fills_of, joined, plans}
use Rattle.page.proofs.Turns.{rest_less, put_fits, put_accepted, put_number, put_at, put_count, put_length, put_list, end_put}
use Rattle.page.proofs.lists.put_fills.Goals as goal

pub loop-rest-init : goal.loop-rest-init
loop-rest-init c = (refl, c.requires.2, omega arith, omega arith, refl)

pub slice_bounds-put_fill-count : goal.slice_bounds-put_fill-count
slice_bounds-put_fill-count c =
    let l = c.loop-rest in
    omega (arith, l.invariant.0, l.invariant.2, c.requires.3)

pub slice_bounds-put_fill-start : goal.slice_bounds-put_fill-start
slice_bounds-put_fill-start c =
    let l = c.loop-rest in
    omega (arith, l.invariant.0, l.invariant.2, c.requires.3)

pub put_fill-requires : goal.put_fill-requires
put_fill-requires c =
    let l = c.loop-rest in
    let p = c.requires in
    put_fits _ p.0 p.1 l.rest.now (rest_some _ c.is_empty.ensures c.loop-rest-test.true) l.invariant.1

-- where nothing is refused before, no fill is
pub returns-in_err-counts : goal.returns-in_err-counts
returns-in_err-counts c =
    let l = c.loop-rest in
    let p = c.requires in
    let a = c.args in
    let h : l.at + length (joined (fills_of a.rows l.rest.now)) ≤ length l.list = omega (arith, l.invariant.0, l.invariant.2, p.3) in
    absurd (number_not_zero _ (put_number a.rows p.0 p.1 l.rest.now (rest_some _ c.is_empty.ensures c.loop-rest-test.true) l.invariant.1 l.list c.put_fill.new.list l.at h _ c.in_err-counts.ensures))

pub overflow_add-at : goal.overflow_add-at
overflow_add-at c =
    let l = c.loop-rest in
    let p = c.requires in
    let a = c.args in
    let h : l.at + length (joined (fills_of a.rows l.rest.now)) ≤ length l.list = omega (arith, l.invariant.0, l.invariant.2, p.3) in
    omega (arith, put_at a.rows p.0 p.1 l.rest.now (rest_some _ c.is_empty.ensures c.loop-rest-test.true) l.invariant.1 l.list c.put_fill.new.list l.at h _ c.in_ok-counts.ensures, h)

pub overflow_add-cycles : goal.overflow_add-cycles
overflow_add-cycles c =
    let l = c.loop-rest in
    let p = c.requires in
    let a = c.args in
    let h : l.at + length (joined (fills_of a.rows l.rest.now)) ≤ length l.list = omega (arith, l.invariant.0, l.invariant.2, p.3) in
    omega (arith, put_count a.rows p.0 p.1 l.rest.now (rest_some _ c.is_empty.ensures c.loop-rest-test.true) l.invariant.1 l.list c.put_fill.new.list l.at h _ c.in_ok-counts.ensures l.cycles, l.invariant.3, count_within (plans (fills_of a.rows a.rectangles.now)), p.3)

pub slice_bounds-rest-count : goal.slice_bounds-rest-count
slice_bounds-rest-count c =
    let l = c.loop-rest in
    let p = c.requires in
    put_fits _ p.0 p.1 l.rest.now (rest_some _ c.is_empty.ensures c.loop-rest-test.true) l.invariant.1

pub slice_bounds-rest-start : goal.slice_bounds-rest-start
slice_bounds-rest-start c =
    let l = c.loop-rest in
    let p = c.requires in
    omega (arith, put_fits _ p.0 p.1 l.rest.now (rest_some _ c.is_empty.ensures c.loop-rest-test.true) l.invariant.1)

pub loop-rest-smaller : goal.loop-rest-smaller
loop-rest-smaller c =
    let l = c.loop-rest in
    let p = c.requires in
    rest_less l.rest.now (put_fits _ p.0 p.1 l.rest.now (rest_some _ c.is_empty.ensures c.loop-rest-test.true) l.invariant.1)

pub loop-rest-preserved : goal.loop-rest-preserved
loop-rest-preserved c =
    let l = c.loop-rest in
    let p = c.requires in
    let a = c.args in
    let h : l.at + length (joined (fills_of a.rows l.rest.now)) ≤ length l.list = omega (arith, l.invariant.0, l.invariant.2, p.3) in (
      put_length a.rows p.0 p.1 l.rest.now (rest_some _ c.is_empty.ensures c.loop-rest-test.true) l.invariant.1 l.list c.put_fill.new.list l.at h _ c.in_ok-counts.ensures ∙ l.invariant.0,
      put_accepted a.rows p.0 p.1 l.rest.now (rest_some _ c.is_empty.ensures c.loop-rest-test.true) l.invariant.1,
      put_at a.rows p.0 p.1 l.rest.now (rest_some _ c.is_empty.ensures c.loop-rest-test.true) l.invariant.1 l.list c.put_fill.new.list l.at h _ c.in_ok-counts.ensures ∙ l.invariant.2,
      omega (arith, c.from-cycles.ensures, put_count a.rows p.0 p.1 l.rest.now (rest_some _ c.is_empty.ensures c.loop-rest-test.true) l.invariant.1 l.list c.put_fill.new.list l.at h _ c.in_ok-counts.ensures l.cycles, l.invariant.3),
      put_list a.rows p.0 p.1 l.rest.now (rest_some _ c.is_empty.ensures c.loop-rest-test.true) l.invariant.1 l.list c.put_fill.new.list l.at h _ c.in_ok-counts.ensures ∙ l.invariant.4,
    )

pub shape_of-list : goal.shape_of-list
shape_of-list c = c.loop-rest.invariant.0

pub returns : goal.returns
returns c =
    let l = c.loop-rest in
    let a = c.args in
    end_put a.rows l.rest.now (omega (arith, rest_none _ c.is_empty.ensures c.loop-rest-test.false)) a.rectangles.now a.list.now l.list l.at l.cycles
    c.requires.3 l.invariant.2 l.invariant.3 l.invariant.4
