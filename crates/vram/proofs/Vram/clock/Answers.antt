-- `vram::Vram::clock` meets its contract. Assumes nothing.
use Rattle.std.proofs.Common.{◌≡◌, length, refl, rules}
use Rattle.vram.specs.Calls.{clock_refusal}
use Rattle.vram.proofs.Clocks.{clock_done}
use Rattle.vram.proofs.Vram.clock.Goals as goal

pub returns : goal.returns
unfolding clock_refusal
returns c =
    let a = c.args in
    let e : 0 ≡ clock_refusal a.self (length a.serial.now) = search rules in
    clock_done a.self a.serial.now 0 e refl c.moved.ensures
