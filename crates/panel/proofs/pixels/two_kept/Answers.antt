-- `panel::pixels::two_kept` meets its contract. Assumes nothing.
use Rattle.std.proofs.Common.{arith}
use Rattle.panel.proofs.Two.{and_two}
use Rattle.panel.proofs.pixels.two_kept.Goals as goal

pub returns : goal.returns
returns c =
    let a = c.args in
    and_two a.low a.high a.bits a.bits (omega (arith, c.ranges.low)) (omega (arith, c.ranges.bits))
