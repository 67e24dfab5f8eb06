-- `pencil::run_marked` meets its contract. Assumes nothing.
use Rattle.std.proofs.Common.{refl}
use Rattle.std.proofs.lemmas.Result.{err_from_is_err_and}
use Rattle.numbers.specs.RefusalLaws.{number_not_zero}
use Rattle.vram.specs.Board.{board}
use Rattle.list.specs.Meaning.{bad, gives}
use Rattle.list.proofs.OutLaws.{refused_out, done_out}
use Rattle.pencil.specs.Pencil.{pencil}
use Rattle.pencil.proofs.Outs.{given_marked, checked_marked}
use Rattle.pencil.proofs.run_marked.Goals as goal

pub returns-in_err-given : goal.returns-in_err-given
returns-in_err-given c =
    let a = c.args in
    let p = err_from_is_err_and c.from_residual.result c.from_residual.ensures.1 in
    rw (p.1, p.2) (given_marked a.list.now (board a.state a.memory.now a.serial.now) _ c.in_err-given.ensures a.marks.now (number_not_zero _))

pub returns-in_err-mark_list : goal.returns-in_err-mark_list
returns-in_err-mark_list c =
    let a = c.args in
    let b = board a.state a.memory.now a.serial.now in
    let p = err_from_is_err_and c.from_residual-in_err-mark_list.result c.from_residual-in_err-mark_list.ensures.1 in
    rw (p.1, p.2)
    (checked_marked a.list.now b 0 c.in_ok-given.ensures a.marks.now refl _ c.mark_list.new.marks c.in_err-mark_list.ensures (gives _ b)
    (refused_out pencil a.list.now b _ (number_not_zero _)))

pub returns : goal.returns
returns c =
    let a = c.args in
    let b = board a.state a.memory.now a.serial.now in
    checked_marked a.list.now b 0 c.in_ok-given.ensures a.marks.now refl (bad 0 0) c.mark_list.new.marks c.in_ok-mark_list.ensures (gives (bad 0 0) _)
    (done_out pencil a.list.now b (bad 0 0) refl _ c.run_fields.ensures)
