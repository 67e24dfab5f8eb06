-- `marks_c::linkshoar_list_run_marked` meets its contract. Assumes nothing.
use Rattle.vram.specs.Board.{effect}
use Rattle.list.specs.Meaning.{ran_by}
use Rattle.registers.specs.StateLaws.{taken_ok, taken_err}
use Rattle.marks_c.specs.CallLaws.{marked_excluded, marked_done}
use Rattle.marks_c.proofs.linkshoar_list_run_marked.Goals as goal

pub returns-in-Ok : goal.returns-in-Ok
returns-in-Ok c =
    let a = c.args in
    let p = taken_ok a.state c.in-Ok.vram c.in-Ok.ensures in
    marked_done effect a.state a.memory.now a.serial.now a.marks.now a.list.now p.0 c.in-Ok.vram p.1 (ran_by c.in-Ok.vram c.run.result)
    c.run.new.memory c.run.new.serial c.run.new.marks c.run.ensures c.hand_ran.result c.hand_ran.ensures

pub returns-in-Err : goal.returns-in-Err
returns-in-Err c =
    let a = c.args in
    let p = taken_err a.state c.in-Err.refusal c.in-Err.ensures in
    rw (c.excluded.ensures, p.1) (marked_excluded effect a.state a.memory.now a.serial.now a.marks.now a.list.now p.0)
