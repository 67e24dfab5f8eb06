-- `marks::run` meets its contract. Assumes nothing.
use Rattle.std.proofs.Common.{refl}
use Rattle.std.proofs.lemmas.Result.{err_from_is_err_and}
use Rattle.numbers.specs.RefusalLaws.{number_not_zero}
use Rattle.vram.specs.Board.{board}
use Rattle.marks.proofs.Outs.{given_out, length_out, refused_out, accepted_list, done_out}
use Rattle.marks.proofs.run.Goals as goal

pub returns-in_err-given : goal.returns-in_err-given
returns-in_err-given c =
    let a = c.args in
    let p = err_from_is_err_and c.from_residual.result c.from_residual.ensures.1 in
    rw (p.1, p.2) (given_out a.list.now (board a.state a.memory.now a.serial.now) a.marks.now _ c.in_err-given.ensures (number_not_zero _))

pub returns-in_err-check_length : goal.returns-in_err-check_length
returns-in_err-check_length c =
    let a = c.args in
    let p = err_from_is_err_and c.from_residual-in_err-check_length.result c.from_residual-in_err-check_length.ensures.1 in
    rw (p.1, p.2)
    (length_out a.list.now (board a.state a.memory.now a.serial.now) a.marks.now c.in_ok-given.ensures _ c.in_err-check_length.ensures (number_not_zero _))

pub returns-in_err-after : goal.returns-in_err-after
returns-in_err-after c =
    let a = c.args in
    let p = err_from_is_err_and c.from_residual-in_err-after.result c.from_residual-in_err-after.ensures.1 in
    rw (p.1, p.2)
    (refused_out a.list.now (board a.state a.memory.now a.serial.now) a.marks.now c.in_ok-check_length.ensures _ c.in_err-after.ensures (number_not_zero _))

pub mark_writes-requires : goal.mark_writes-requires
mark_writes-requires c =
    let a = c.args in
    accepted_list a.list.now (board a.state a.memory.now a.serial.now) a.marks.now c.in_ok-check_length.ensures _ c.in_ok-after.ensures refl

pub returns : goal.returns
returns c =
    let a = c.args in
    done_out a.list.now (board a.state a.memory.now a.serial.now) a.marks.now c.in_ok-check_length.ensures _ c.in_ok-after.ensures refl _ c.mark_writes.ensures
