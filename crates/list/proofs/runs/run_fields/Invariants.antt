-- `list::runs::run_fields` meets its contract: one turn of the loop is one cycle run. Assumes nothing.
use Rattle.std.proofs.Common.{◌≡◌, true, length}
use Rattle.vram.specs.Board.{board}
use Rattle.vram.specs.Step.{run}
use Rattle.list.specs.Meaning.{readable, cycles_of}
use Rattle.list.specs.Fields.{fields}
use Rattle.list.proofs.runs.run_fields.Given as goal

abbrev pub invariant-loop-rest : goal.invariant-loop-rest
invariant-loop-rest l =
    (length l.memory ≡ length l.initial.memory) × (length l.serial ≡ length l.initial.serial) × (readable (fields l.rest) ≡ true)
    × (run (cycles_of l.rest) (board l.current l.memory l.serial) ≡ run (cycles_of l.list) (board l.initial.current l.initial.memory l.initial.serial))

abbrev pub decreases-loop-rest : goal.decreases-loop-rest
decreases-loop-rest l = length l.rest
