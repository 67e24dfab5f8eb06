-- `vram::memory::write_block` meets its contract. Assumes nothing.
use Rattle.std.proofs.Common.{◌&&◌}
use Rattle.words.specs.Bit.{bit}
use Rattle.words.specs.Word.{lets}
use Rattle.vram.proofs.Masks.{four_writes}
use Rattle.vram.proofs.memory.write_block.Goals as goal

pub returns : goal.returns
returns c =
    let a = c.args in
    four_writes _ _ _ _ _ _ _ (λ j b. lets a.columns j b && bit a.allow b) c.write_column.ensures c.write_column-2.ensures c.write_column-3.ensures
    c.write_column-4.ensures
