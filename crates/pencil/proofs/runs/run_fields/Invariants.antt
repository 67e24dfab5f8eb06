-- `pencil::runs::run_fields` meets its contract: one turn of the loop is one cycle run. Assumes nothing.
use Rattle.std.proofs.Common.{◌≡◌, length}
use Rattle.vram.specs.Board.{board}
use Rattle.vram.specs.Step.{step_by, run_by}
use Rattle.list.specs.Meaning.{cycles_of}
use Rattle.pencil.specs.Pencil.{pencil}
use Rattle.pencil.proofs.runs.run_fields.Given as goal

abbrev pub invariant-loop-cycle : goal.invariant-loop-cycle
invariant-loop-cycle l =
    (length l.memory ≡ length l.initial.memory) × (length l.serial ≡ length l.initial.serial)
    × (run_by (step_by pencil) (cycles_of l.rest) (board l.current l.memory l.serial) ≡ run_by (step_by pencil) (cycles_of l.list) (board l.initial.current l.initial.memory l.initial.serial))

abbrev pub decreases-loop-cycle : goal.decreases-loop-cycle
decreases-loop-cycle l = length l.rest
