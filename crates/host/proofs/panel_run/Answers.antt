-- `host::panel_run` meets its contract. Assumes nothing.
use Rattle.std.proofs.Common.{ℕ, refl, ap, ◌∙◌}
use Rattle.vram.specs.Calls.{answered_by}
use Rattle.panel.specs.Panel.{part_at}
use Rattle.registers.specs.StateLaws.{taken_ok, taken_err}
use Rattle.host.specs.Calls.{shown}
use Rattle.host.specs.CallLaws.{panel_excluded, panel_done}
use Rattle.host.proofs.panel_run.Goals as goal

pub returns-in-Ok : goal.returns-in-Ok
returns-in-Ok c =
    let a = c.args in
    let t = taken_ok a.state c.in-Ok.vram c.in-Ok.ensures in
    ap (λ s. shown s c.run_at.new.out) c.of.ensures
    ∙ panel_done a.state t.0 c.in-Ok.vram t.1
    (part_at a.width) a.serial.now a.palette a.table.now a.clocks a.blank a.out.now (answered_by c.in-Ok.vram c.run_at.result) c.run_at.new.out c.run_at.ensures _ refl

pub returns-in-Err : goal.returns-in-Err
returns-in-Err c =
    let a = c.args in
    let t = taken_err a.state c.in-Err.refusal c.in-Err.ensures in
    ap (λ (n : ℕ). shown (record { state = a.state; number = n }) a.out.now) (c.from.ensures ∙ t.1)
    ∙ panel_excluded a.state t.0 (part_at a.width) a.serial.now a.palette a.table.now a.clocks a.blank a.out.now
