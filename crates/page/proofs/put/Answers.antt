-- `page::put` meets its contract. Assumes nothing.
use Rattle.std.proofs.Common.{refl}
use Rattle.std.proofs.lemmas.Result.{err_from_is_err_and}
use Rattle.numbers.specs.RefusalLaws.{number_not_zero}
use Rattle.page.proofs.Outs.{rows_out, refused_out, taken, done_out}
use Rattle.page.proofs.put.Goals as goal

pub returns-in_err-refuse : goal.returns-in_err-refuse
returns-in_err-refuse c =
    let a = c.args in
    let p = err_from_is_err_and c.from_residual.result c.from_residual.ensures.1 in
    rw (p.1, p.2) (rows_out a.rows a.persistent a.rectangles.now a.list.now _ c.in_err-refuse.ensures (number_not_zero _))

pub returns-in_err-check : goal.returns-in_err-check
returns-in_err-check c =
    let a = c.args in
    let p = err_from_is_err_and c.from_residual-in_err-check.result c.from_residual-in_err-check.ensures.1 in
    rw (p.1, p.2)
    (refused_out a.rows a.persistent a.rectangles.now a.list.now 0 c.in_ok-refuse.ensures refl _ c.in_err-check.ensures (number_not_zero _))

pub put_fills-requires : goal.put_fills-requires
put_fills-requires c =
    let a = c.args in
    taken a.rows a.persistent a.rectangles.now a.list.now 0 c.in_ok-refuse.ensures refl _ c.in_ok-check.ensures refl

pub returns : goal.returns
returns c =
    let a = c.args in
    done_out a.rows a.persistent a.rectangles.now a.list.now 0 c.in_ok-refuse.ensures refl _ c.in_ok-check.ensures refl _ c.put_fills.ensures
