-- `planner::Fill::put` meets its contract. Assumes nothing.
use Rattle.std.proofs.Common.{◌≡◌, sym, ap, ◌∙◌, refl, arith, length, leb, le-leb}
use Rattle.std.proofs.lemmas.Result.{err_from_is_err_and}
use lib.Seq.{sets}
use Rattle.numbers.specs.Refuse.{refuse}
use Rattle.numbers.specs.RefusalLaws.{number_not_zero}
use Rattle.planner.specs.declared.Filled.{Filled}
use Rattle.planner.specs.Shapes.{made, shape_answer, Words, Blocks}
use Rattle.planner.proofs.CallLaws.{fill_refuses}
use Rattle.planner.proofs.ShapeLaws.{shape_known, shape_most, put_short, put_room, put_done, nothing_list}
use Rattle.planner.proofs.Fill.put.Goals as goal

pub returns-in_err-shape : goal.returns-in_err-shape
returns-in_err-shape c =
    let a = c.args in
    let p = err_from_is_err_and c.from_residual.result c.from_residual.ensures.1 in
    let s = shape_known a.self _ c.in_err-shape.ensures in
    rw (p.1, p.2) (fill_refuses a.self a.list.now _ s.0 s.1)

pub counts-counts-requires : goal.counts-counts-requires
counts-counts-requires c = shape_most c.args.self _ (shape_known c.args.self _ c.in_ok-shape.ensures)

pub returns-in-Nothing : goal.returns-in-Nothing
unfolding shape_answer
returns-in-Nothing c =
    let a = c.args in
    let s = shape_known a.self _ (sym (ap made c.in-Nothing.is) ∙ c.in_ok-shape.ensures) in
    let z : c.counts-counts.result.bytes ≡ 0 = ap (λ (f : Filled). f.bytes) (c.counts-counts.ensures ∙ ap (λ x. shape_answer (made x)) c.in-Nothing.is) in
    let room : 0 ≡ refuse (leb c.counts-counts.result.bytes (length a.list.now)) 15 0 = rw (z, le-leb 0 (length a.list.now) (omega arith)) refl in
    put_done a.self a.list.now _ c.in_ok-shape.ensures _ _ c.counts-counts.ensures room _ (sym (ap (sets a.list.now 0) (nothing_list a.self s)))

pub returns-in_err-refuse : goal.returns-in_err-refuse
returns-in_err-refuse c =
    let a = c.args in
    let p = err_from_is_err_and c.from_residual-in_err-refuse.result c.from_residual-in_err-refuse.ensures.1 in
    rw (p.1, p.2) (put_short a.self a.list.now _ c.in_ok-shape.ensures _ _ c.counts-counts.ensures _ c.in_err-refuse.ensures (number_not_zero _))

pub put_blocks-requires : goal.put_blocks-requires
put_blocks-requires c =
    let a = c.args in
    let e : Blocks _ ≡ _ = sym (ap made c.in-Blocks.is) ∙ c.in_ok-shape.ensures in (
      sym e ∙ ap Blocks (shape_known a.self _ e).2,
      put_room a.self a.list.now _ c.in_ok-shape.ensures _ _ c.counts-counts.ensures c.in_ok-refuse.ensures,
    )

pub put_words-requires : goal.put_words-requires
put_words-requires c =
    let a = c.args in
    let e : Words _ ≡ _ = sym (ap made c.in-Words.is) ∙ c.in_ok-shape.ensures in (
      sym e ∙ ap Words (shape_known a.self _ e).2,
      put_room a.self a.list.now _ c.in_ok-shape.ensures _ _ c.counts-counts.ensures c.in_ok-refuse.ensures,
    )

pub returns-in-Blocks : goal.returns-in-Blocks
returns-in-Blocks c =
    put_done c.args.self c.args.list.now _ c.in_ok-shape.ensures _ _ c.counts-counts.ensures c.in_ok-refuse.ensures _ c.put_blocks.ensures

pub returns-in-Words : goal.returns-in-Words
returns-in-Words c =
    put_done c.args.self c.args.list.now _ c.in_ok-shape.ensures _ _ c.counts-counts.ensures c.in_ok-refuse.ensures _ c.put_words.ensures
