-- `pencil::bits::has` meets its contract. Assumes nothing.
use Rattle.std.proofs.Common.{sym, arith}
use Rattle.words.specs.BitLaws.{bit_is, bit_above}
use Rattle.pencil.proofs.bits.has.Goals as goal

pub returns-then-b-gt15 : goal.returns-then-b-gt15
returns-then-b-gt15 c = sym (bit_above 16 c.args.word c.args.b c.ranges.word.fits (omega (arith, c.if-b-gt15.true)))

pub returns : goal.returns
returns c = sym (bit_is c.args.word c.args.b)
