-- `pieces::whole::take_all` meets its contract: what the bytes that are left come to is the same at each turn. Assumes nothing.
use Rattle.std.proofs.Common.{◌≡◌, length}
use Rattle.vram.specs.Board.{board}
use Rattle.vram.specs.Step.{given_of}
use Rattle.pieces.specs.Line.{port, piece}
use Rattle.pieces.specs.Pieces.{unpack}
use Rattle.pieces.specs.PackLaws.{Sound}
use Rattle.pieces.proofs.whole.take_all.Given as goal

abbrev pub invariant-loop-rest : goal.invariant-loop-rest
invariant-loop-rest l =
    (length l.memory ≡ length l.initial.memory) × (length l.serial ≡ length l.initial.serial) × Sound l.pieces × (given_of (board l.state l.memory l.serial) ≡ 0)
    × (piece (port (unpack l.pieces) (board l.state l.memory l.serial)) l.rest ≡ piece (port (unpack l.initial.pieces) (board l.initial.state l.initial.memory l.initial.serial)) l.bytes)

abbrev pub decreases-loop-rest : goal.decreases-loop-rest
decreases-loop-rest l = length l.rest
