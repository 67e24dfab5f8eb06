-- `words::strobe_mask` meets its contract: each arm's word is computed from the definition. Assumes nothing.
use Rattle.std.proofs.Common.{arith}
use Rattle.words.specs.Bit.{bit, of_bits}
use Rattle.words.specs.Word.{covers}
use Rattle.words.specs.CodeLaws.{strobes_low}
use Rattle.words.proofs.strobe_mask.Goals as goal

pub returns-in-1 : goal.returns-in-1
unfolding of_bits covers bit
returns-in-1 c = strobes_low c.args.strobes 1 c.in-1.is

pub returns-in-2 : goal.returns-in-2
unfolding of_bits covers bit
returns-in-2 c = strobes_low c.args.strobes 2 c.in-2.is

pub returns-in-3 : goal.returns-in-3
unfolding of_bits covers bit
returns-in-3 c = strobes_low c.args.strobes 3 c.in-3.is

pub returns-in_default : goal.returns-in_default
unfolding of_bits covers bit
returns-in_default c = strobes_low c.args.strobes 0 (omega arith)
