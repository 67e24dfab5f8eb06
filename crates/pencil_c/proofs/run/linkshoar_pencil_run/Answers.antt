-- `pencil_c::run::linkshoar_pencil_run` meets its contract. Assumes nothing.
use Rattle.std.specs.Prelude.{ℕ}
use Rattle.std.proofs.Common.{ap, ◌∙◌}
use Rattle.list.specs.Meaning.{ran_by}
use Rattle.registers.specs.declared.Ran.{Ran}
use Rattle.registers.specs.Lists.{listed}
use Rattle.registers.specs.ListLaws.{list_excluded, list_done}
use Rattle.registers.specs.StateLaws.{taken_ok, taken_err}
use Rattle.pencil.specs.Pencil.{pencil}
use Rattle.pencil_c.proofs.run.linkshoar_pencil_run.Goals as goal

pub returns-in-Ok : goal.returns-in-Ok
returns-in-Ok c =
    let a = c.args in
    let p = taken_ok a.state c.in-Ok.vram c.in-Ok.ensures in
    list_done pencil a.state p.0 c.in-Ok.vram p.1 a.memory.now a.serial.now a.list.now (ran_by c.in-Ok.vram c.run.result)
    c.run.new.memory c.run.new.serial c.run.ensures c.hand_ran.result c.hand_ran.ensures

pub returns-in-Err : goal.returns-in-Err
returns-in-Err c =
    let a = c.args in
    let p = taken_err a.state c.in-Err.refusal c.in-Err.ensures in
    ap (λ (r : Ran). listed r a.memory.now a.serial.now)
    (c.excluded.ensures ∙ ap (λ (n : ℕ). record { state = a.state; number = n; place = 0 }) p.1)
    ∙ list_excluded pencil a.state p.0 a.memory.now a.serial.now a.list.now
