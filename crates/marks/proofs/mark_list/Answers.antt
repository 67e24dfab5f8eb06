-- `marks::mark_list` meets its contract. Assumes nothing.
use Rattle.std.proofs.Common.{refl}
use Rattle.std.proofs.lemmas.Result.{err_from_is_err_and}
use Rattle.numbers.specs.RefusalLaws.{number_not_zero}
use Rattle.list.specs.Meaning.{bad}
use Rattle.marks.proofs.Outs.{unfit_out, turned_down, checked_list, checked_out}
use Rattle.marks.proofs.mark_list.Goals as goal

pub returns-in_err-check_length : goal.returns-in_err-check_length
returns-in_err-check_length c =
    let a = c.args in
    let p = err_from_is_err_and c.from_residual.result c.from_residual.ensures.1 in
    rw (p.1, p.2) (unfit_out a.list.now a.rows a.loaded a.marks.now _ c.in_err-check_length.ensures (number_not_zero _))

pub returns-in_err-check : goal.returns-in_err-check
returns-in_err-check c =
    let a = c.args in
    let p = err_from_is_err_and c.from_residual-in_err-check.result c.from_residual-in_err-check.ensures.1 in
    rw (p.1, p.2) (turned_down a.list.now a.rows a.loaded a.marks.now c.in_ok-check_length.ensures _ c.in_err-check.ensures (number_not_zero _))

pub mark_writes-requires : goal.mark_writes-requires
mark_writes-requires c =
    let a = c.args in
    checked_list a.list.now a.rows a.loaded a.marks.now c.in_ok-check_length.ensures (bad 0 0) c.in_ok-check.ensures refl

pub returns : goal.returns
returns c =
    let a = c.args in
    checked_out a.list.now a.rows a.loaded a.marks.now c.in_ok-check_length.ensures (bad 0 0) c.in_ok-check.ensures refl _ c.mark_writes.ensures
