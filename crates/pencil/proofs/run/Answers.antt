-- `pencil::run` meets its contract. Assumes nothing.
use Rattle.std.proofs.Common.{refl}
use Rattle.std.proofs.lemmas.Result.{err_from_is_err_and}
use Rattle.numbers.specs.RefusalLaws.{number_not_zero}
use Rattle.vram.specs.Board.{board}
use Rattle.list.specs.Meaning.{bad, gives}
use Rattle.list.proofs.OutLaws.{given_out, refused_out, done_out, checked_out}
use Rattle.pencil.specs.Pencil.{pencil}
use Rattle.pencil.proofs.run.Goals as goal

pub returns-in_err-given : goal.returns-in_err-given
returns-in_err-given c =
    let a = c.args in
    let p = err_from_is_err_and c.from_residual.result c.from_residual.ensures.1 in
    rw (p.1, p.2) (given_out pencil a.list.now (board a.state a.memory.now a.serial.now) _ c.in_err-given.ensures (number_not_zero _))

pub returns-in_err-check : goal.returns-in_err-check
returns-in_err-check c =
    let a = c.args in
    let b = board a.state a.memory.now a.serial.now in
    let p = err_from_is_err_and c.from_residual-in_err-check.result c.from_residual-in_err-check.ensures.1 in
    rw (p.1, p.2)
    (checked_out pencil a.list.now b 0 c.in_ok-given.ensures refl _ c.in_err-check.ensures (gives _ b)
    (refused_out pencil a.list.now b _ (number_not_zero _)))

pub returns : goal.returns
returns c =
    let a = c.args in
    let b = board a.state a.memory.now a.serial.now in
    checked_out pencil a.list.now b 0 c.in_ok-given.ensures refl (bad 0 0) c.in_ok-check.ensures (gives (bad 0 0) _)
    (done_out pencil a.list.now b (bad 0 0) refl _ c.run_fields.ensures)
