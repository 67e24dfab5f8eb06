-- `pencil::block::write_block` meets its contract: one turn of the loop is one column. Assumes nothing.
use Rattle.std.proofs.Common.{◌≡◌, refl, ap, ◌∙◌, arith}
use Rattle.pencil.specs.Memory.{block_written}
use Rattle.pencil.proofs.Turns.{block_start, block_turn}
use Rattle.pencil.proofs.block.write_block.Goals as goal

pub loop-j-init : goal.loop-j-init
loop-j-init c = (refl, block_start _ _ _ _ _ _)

pub loop-j-preserved : goal.loop-j-preserved
loop-j-preserved c =
    let l = c.loop-j in (
      c.write_word.auto.memory ∙ l.invariant.0,
      block_turn _ _ _ _ _ _ l.memory l.j c.bits_left-left.result _ (omega arith) l.invariant.1 c.bits_left-left.ensures c.write_word.ensures,
    )

pub shape_of-memory : goal.shape_of-memory
shape_of-memory c = c.loop-j.invariant.0

pub returns : goal.returns
returns c =
    let l = c.loop-j in
    let e : l.j ≡ 4 = omega arith in
    l.invariant.1 ∙ ap (block_written _ _ _ _ _ _) e
