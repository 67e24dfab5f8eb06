-- `vram::memory::write_column` meets its contract. Assumes nothing.
use Rattle.std.proofs.Common.{ℕ, ◌&&◌, ap, ◌∙◌, mod-eq_of_lt}
use Rattle.words.specs.Bit.{bit, of_bits}
use Rattle.words.specs.Word.{lets}
use Rattle.words.specs.CodeLaws.{joined}
use Rattle.vram.proofs.Masks.{put_by_mask}
use Rattle.vram.proofs.memory.write_column.Goals as goal

pub returns : goal.returns
returns c =
    let a = c.args in
    c.write_word.ensures
    ∙ put_by_mask _ _ _ _ (λ b. lets a.columns a.j b && bit a.allow b)
    (joined _ _ (lets a.columns a.j) (c.column_allow.ensures ∙ ap (λ (j : ℕ). of_bits 16 (lets a.columns j)) (mod-eq_of_lt c.requires.1)))
