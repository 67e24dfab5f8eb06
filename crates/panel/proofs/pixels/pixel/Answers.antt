-- `panel::pixels::pixel` meets its contract. Assumes nothing.
use Rattle.std.proofs.Common.{arith}
use Rattle.words.specs.WordLaws.{high_is}
use Rattle.panel.proofs.PixelLaws.{the_mark, the_result, reverse_is}
use Rattle.panel.proofs.pixels.pixel.Goals as goal

pub returns-then-word-ge65280 : goal.returns-then-word-ge65280
returns-then-word-ge65280 c =
    let w = c.args.word in
    let fits = c.ranges.word in
    let e = reverse_is w (omega (arith, high_is w, c.if-word-ge65280.true, fits)) in
    (omega (arith, e, c.if-word-ge65280.true, fits), omega (arith, c.if-word-ge65280.true, fits))

pub returns-then-high-eq0 : goal.returns-then-high-eq0
returns-then-high-eq0 c =
    let w = c.args.word in
    let e = the_result w (omega (arith, high_is w, c.if-high-eq0.true)) in
    (omega (arith, e, c.if-high-eq0.true), omega (arith, c.if-high-eq0.true))

pub returns-else-high-eq0 : goal.returns-else-high-eq0
returns-else-high-eq0 c =
    let w = c.args.word in
    let e = the_mark w (λ z. c.if-high-eq0.false (omega (arith, high_is w, z))) (λ z. omega (arith, high_is w, z, c.if-word-ge65280.false)) in
    (omega (arith, e, high_is w), omega (arith, c.ranges.word))
