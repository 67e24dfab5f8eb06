-- A cycle that refuses or acts, and cycles in order. Assumes nothing.
use Rattle.std.specs.Prelude.{ℕ, ◌/◌, List, [], ◌∷◌, length}
use Rattle.numbers.specs.Refuse.{first_of, leaves}
use Rattle.vram.specs.declared.Cycle.{Cycle}
use Rattle.vram.specs.Board.{Board, effect}
use Rattle.vram.specs.Refusal.{given, refusal}

-- 1 to 3, of a board
abbrev pub given_of : Board → ℕ
given_of b = given b.state (length b.memory) (length b.serial)

-- how many rows are fitted
abbrev pub rows_of : Board → ℕ
rows_of b = length b.memory / 512

-- the number that a cycle gives back
unfoldable pub number : Cycle → Board → ℕ
number c b = first_of (given_of b) (refusal (rows_of b) b.state.loaded c)

-- what an engine makes of a board, with nothing refused
abbrev pub Engine : Type 0
Engine = Cycle → Board → Board

-- the engine's doing where nothing is refused, and nothing elsewhere
unfoldable pub step_by : Engine → Engine
step_by e c b = leaves (number c b) b (e c b)

-- cycles in order
unfoldable pub run_by : Engine → List Cycle → Board → Board
run_by e [] b = b
run_by e (c ∷ l) b = run_by e l (e c b)

abbrev pub step : Cycle → Board → Board
step = step_by effect

abbrev pub run : List Cycle → Board → Board
run = run_by step
