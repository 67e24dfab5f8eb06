-- `vram::memory::copy` meets its contract: one turn of the loop is one more word pasted. Assumes nothing.
use Rattle.std.proofs.Common.{◌≡◌, ◌-◌, ◌≤◌, drop}
use lib.Seq.{paste}
use Rattle.vram.proofs.memory.copy.Given as goal

abbrev pub invariant-loop-i : goal.invariant-loop-i
invariant-loop-i l = (l.i ≤ l.n) × (l.serial ≡ paste l.initial.serial l.to (drop l.from l.memory) l.i)
