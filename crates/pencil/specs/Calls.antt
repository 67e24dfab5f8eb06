-- What each call answers and leaves: what the calls of `list` and `marks` do, by the plain engine. Change request M-105. Assumes nothing.
use Rattle.std.specs.Prelude.{ℕ, List}
use Rattle.vram.specs.Board.{Board}
use Rattle.list.specs.Meaning.{Outcome, run_call_by}
use Rattle.marks.specs.Calls.{Outcome as MarkedOutcome, run_call_by as marked_call_by}
use Rattle.pencil.specs.Pencil.{pencil}

abbrev pub run_call : List ℕ → Board → Outcome
run_call = run_call_by pencil

abbrev pub marked_call : List ℕ → Board → List ℕ → MarkedOutcome
marked_call = marked_call_by pencil
