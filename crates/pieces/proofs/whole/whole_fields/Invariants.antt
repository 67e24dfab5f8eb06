-- `pieces::whole::whole_fields` meets its contract: one turn of the loop is one field. Assumes nothing.
use Rattle.std.proofs.Common.{◌≡◌, true, [], ◌-◌, ◌≤◌, length, drop}
use Rattle.vram.specs.Board.{board}
use Rattle.vram.specs.Step.{given_of}
use Rattle.pieces.specs.Line.{line, port, piece}
use Rattle.pieces.specs.Pieces.{possible}
use Rattle.pieces.proofs.whole.whole_fields.Given as goal

abbrev pub invariant-loop-at : goal.invariant-loop-at
invariant-loop-at l =
    (length l.memory ≡ length l.initial.memory) × (length l.serial ≡ length l.initial.serial) × (l.used ≤ length l.bytes) × (possible (line [] l.at 0 l.opened) ≡ true)
    × (given_of (board l.state l.memory l.serial) ≡ 0)
    × (piece (port (line [] l.at 0 l.opened) (board l.state l.memory l.serial)) (drop l.used l.bytes) ≡ piece (port (line [] l.start 0 l.initial.opened) (board l.initial.state l.initial.memory l.initial.serial)) l.bytes)

abbrev pub decreases-loop-at : goal.decreases-loop-at
decreases-loop-at l = length l.bytes - l.used
