-- `pencil::word::write_word` meets its contract. Assumes nothing.
use Rattle.std.proofs.Common.{ap, set}
use Rattle.pencil.specs.Memory.{word_written}
use Rattle.pencil.proofs.word.write_word.Goals as goal

pub returns : goal.returns
unfolding word_written
returns c = let a = c.args in ap (set a.memory.now a.at) c.write_bits.ensures
