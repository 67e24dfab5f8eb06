-- `pencil::cycles::block_write` meets its contract. Assumes nothing.
use Rattle.std.proofs.Common.{refl, sym, ap, ◌∙◌, ℕ, ◌+◌, ◌*◌, ◌/◌, length}
use Rattle.refusals.specs.RefusalLaws.{write_zero, block_within}
use Rattle.vram.proofs.Arms.{own_decides, wrote}
use Rattle.pencil.specs.Memory.{block_written}
use Rattle.pencil.proofs.cycles.block_write.Goals as goal

pub write_block-requires : goal.write_block-requires
write_block-requires c =
    let a = c.args in
    block_within (length a.memory.now) a.row a.column (write_zero _ a.row a.column a.masking a.mask a.strobes (sym c.in_ok-write_refusal.ensures))

pub returns : goal.returns
returns c =
    let a = c.args in
    wrote (own_decides 0 _ _ c.in_ok-given.ensures refl c.in_ok-write_refusal.ensures)
    (c.write_block.ensures
    ∙ ap (λ (n : ℕ). block_written a.memory.now (512 * a.row + 4 * (a.column / 4)) a.state.colour a.columns n a.strobes 4) c.in_force-force.ensures)
