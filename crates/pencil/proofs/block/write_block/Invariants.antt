-- `pencil::block::write_block` meets its contract: one turn of the loop is one column. Assumes nothing.
use Rattle.std.proofs.Common.{◌≡◌, length}
use Rattle.pencil.specs.Memory.{block_written}
use Rattle.pencil.proofs.block.write_block.Given as goal

abbrev pub invariant-loop-j : goal.invariant-loop-j
invariant-loop-j l =
    (length l.memory ≡ length l.initial.memory) × (l.memory ≡ block_written l.initial.memory l.base l.colour l.columns l.mask l.strobes l.j)
