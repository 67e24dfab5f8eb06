-- `pencil::word::write_bits` meets its contract: one turn of the loop is one bit. Assumes nothing.
use Rattle.std.proofs.Common.{◌≡◌}
use Rattle.pencil.specs.Bits.{bit_by_bit, takes}
use Rattle.pencil.proofs.word.write_bits.Given as goal

abbrev pub invariant-loop-b : goal.invariant-loop-b
invariant-loop-b l = l.word ≡ bit_by_bit (takes l.new l.mask l.strobes) l.old l.b
