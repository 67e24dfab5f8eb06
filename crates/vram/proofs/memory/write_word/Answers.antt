-- `vram::memory::write_word` meets its contract. Assumes nothing.
use Rattle.std.proofs.Common.{set, ap}
use Rattle.vram.specs.Memory.{put}
use Rattle.vram.proofs.memory.write_word.Goals as goal

pub returns : goal.returns
unfolding put
returns c = let a = c.args in ap (set a.memory.now a.at) c.merge.ensures
