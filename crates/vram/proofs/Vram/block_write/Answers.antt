-- `vram::Vram::block_write` meets its contract. Assumes nothing.
use Rattle.std.proofs.Common.{ℕ, ◌&&◌, length, sym, ap, ◌∙◌, refl, arith}
use Rattle.words.specs.Bit.{bit}
use Rattle.words.specs.Word.{lets}
use Rattle.vram.specs.Memory.{puts}
use Rattle.vram.specs.Board.{allowed}
use Rattle.refusals.specs.RefusalLaws.{write_zero, block_within}
use Rattle.vram.proofs.Arms.{own_decides, wrote}
use Rattle.vram.proofs.Masks.{puts_by_mask}
use Rattle.vram.proofs.Vram.block_write.Goals as goal

pub write_block-requires : goal.write_block-requires
write_block-requires c =
    let a = c.args in
    let z = write_zero _ a.row a.column a.masking a.mask a.strobes (sym c.in_ok-write_refusal.ensures) in
    omega (arith, c.place-base.ensures, block_within (length a.memory.now) a.row a.column z)

pub returns : goal.returns
returns c =
    let a = c.args in
    wrote (own_decides 0 _ _ c.in_ok-given.ensures refl c.in_ok-write_refusal.ensures)
    (c.write_block.ensures
    ∙ ap (λ (i : ℕ). puts a.memory.now i a.self.colour (λ j b. lets a.columns j b && bit c.allowed.result b) 4) c.place-base.ensures
    ∙ puts_by_mask _ _ _ a.columns _ (allowed a.self a.masking a.mask a.strobes) c.allowed.ensures 4)
