-- The two engines give equal answers and leave equal contents: change request M-105. Assumes nothing.
use Rattle.std.specs.Prelude.{◌≡◌, List, ℕ}
use Rattle.vram.specs.declared.Vram.{Vram}
use Rattle.vram.specs.Board.{board}
use Rattle.list.specs.Meaning.{run_call}
use Rattle.list.proofs.CallLaws.{calls_same}
use Rattle.marks.specs.Calls.{run_call as marked_call}
use Rattle.marks.proofs.CallLaws.{marked_same}
use Rattle.pencil.specs.Calls.{run_call as pencil_run, marked_call as pencil_marked}
use Rattle.pencil.proofs.EngineLaws.{pencil_effect}

-- `pencil_run` and `run_call` are the contracts of `pencil::run` and `list::run`, `pencil_marked` and `marked_call` those of `pencil::run_marked`
-- and `marks::run`. On every state, memory, serial register, marks and list they give the same number, place and state and leave the same
-- in all that is lent, whether the list is refused or not
pub engines_same : (state : Vram) (memory serial marks list : List ℕ)
    → (pencil_run list (board state memory serial) ≡ run_call list (board state memory serial))
    × (pencil_marked list (board state memory serial) marks ≡ marked_call list (board state memory serial) marks)
engines_same state memory serial marks list =
    (calls_same pencil_effect list (board state memory serial), marked_same pencil_effect list (board state memory serial) marks)
