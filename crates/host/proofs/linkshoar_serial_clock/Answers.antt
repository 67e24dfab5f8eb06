-- `host::linkshoar_serial_clock` meets its contract. Assumes nothing.
use Rattle.std.proofs.Common.{ℕ, refl, ap, ◌∙◌}
use Rattle.vram.specs.Calls.{clocked_by}
use Rattle.registers.specs.StateLaws.{taken_ok, taken_err}
use Rattle.host.specs.CallLaws.{clock_excluded, clock_done}
use Rattle.host.proofs.linkshoar_serial_clock.Goals as goal

pub returns-in-Ok : goal.returns-in-Ok
returns-in-Ok c =
    let a = c.args in
    let t = taken_ok a.state c.in-Ok.vram c.in-Ok.ensures in
    c.of.ensures ∙ clock_done a.state t.0 c.in-Ok.vram t.1 a.serial.now (clocked_by c.in-Ok.vram c.clock.result) c.clock.ensures _ refl

pub returns-in-Err : goal.returns-in-Err
returns-in-Err c =
    let a = c.args in
    let t = taken_err a.state c.in-Err.refusal c.in-Err.ensures in
    ap (λ (n : ℕ). record { state = a.state; word = 0; number = n }) (c.from.ensures ∙ t.1) ∙ clock_excluded a.state t.0 a.serial.now
