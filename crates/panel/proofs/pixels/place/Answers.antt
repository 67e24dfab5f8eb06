-- `panel::pixels::place` meets its contract. Assumes nothing.
use Rattle.std.proofs.Common.{ap, ℕ, ◌*◌, arith}
use lib.Bits.{bit_and, and_le_l}
use Rattle.panel.proofs.pixels.place.Goals as goal

pub returns : goal.returns
returns c =
    let m = c.args.mask in
    (ap (λ (x : ℕ). 3 * bit_and x m) c.pixel-byte.ensures.0, omega (arith, and_le_l c.pixel-byte.result m, c.pixel-byte.ensures.1))

pub overflow_cast-result : goal.overflow_cast-result
overflow_cast-result c = omega (arith, and_le_l c.pixel-byte.result c.args.mask, c.pixel-byte.ensures.1)

pub overflow_mul-result : goal.overflow_mul-result
overflow_mul-result c = omega (arith, and_le_l c.pixel-byte.result c.args.mask, c.pixel-byte.ensures.1)
