-- `pencil::block::bits_left` meets its contract: one turn of the loop is one bit. Assumes nothing.
use Rattle.std.proofs.Common.{◌≡◌, ◌%◌}
use Rattle.pencil.specs.Bits.{bit_by_bit, stays}
use Rattle.pencil.proofs.block.bits_left.Given as goal

abbrev pub invariant-loop-b : goal.invariant-loop-b
invariant-loop-b l = l.left ≡ bit_by_bit (stays l.columns (l.column % 4)) l.mask l.b
