-- `host::linkshoar_list_run` meets its contract. Assumes nothing.
use Rattle.vram.specs.Board.{effect}
use Rattle.list.specs.Meaning.{ran_by}
use Rattle.registers.specs.StateLaws.{taken_ok, taken_err}
use Rattle.registers.specs.ListLaws.{list_excluded, list_done}
use Rattle.host.proofs.linkshoar_list_run.Goals as goal

pub returns-in-Ok : goal.returns-in-Ok
returns-in-Ok c =
    let a = c.args in
    let t = taken_ok a.state c.in-Ok.vram c.in-Ok.ensures in
    list_done effect a.state t.0 c.in-Ok.vram t.1
    a.memory.now a.serial.now a.list.now (ran_by c.in-Ok.vram c.run.result) c.run.new.memory c.run.new.serial c.run.ensures c.hand_ran.result c.hand_ran.ensures

pub returns-in-Err : goal.returns-in-Err
returns-in-Err c =
    let a = c.args in
    let t = taken_err a.state c.in-Err.refusal c.in-Err.ensures in
    rw (c.excluded.ensures, t.1) (list_excluded effect a.state t.0 a.memory.now a.serial.now a.list.now)
