-- Marked runs one after the other, accepted and refused, each on the memory and the marks that the one before left. Assumes nothing.
use Rattle.std.specs.Prelude.{ℕ, List, [], ◌∷◌, ◌++◌}
use Rattle.numbers.specs.Refuse.{leaves}
use Rattle.vram.specs.declared.Vram.{Vram}
use Rattle.vram.specs.declared.Cycle.{Cycle}
use Rattle.vram.specs.Board.{Board, board}
use Rattle.list.specs.Meaning.{cycles_of}
use Rattle.marks.specs.Calls.{Outcome, run_call, clear_call}

-- a run, with all that it is given beside memory and marks: any state and serial register, so that any calls that do not draw may stand
-- between it and the run before
pub record Run : Type 0 where
  pub state : Vram
  pub serial : List ℕ
  pub list : List ℕ

-- what it draws on
pub record Drawn : Type 0 where
  pub memory : List ℕ
  pub marks : List ℕ

abbrev pub drawn : List ℕ → List ℕ → Drawn
drawn memory marks = record { memory = memory; marks = marks }

abbrev pub board_of : Run → Drawn → Board
board_of r d = board r.state d.memory r.serial

abbrev pub call_of : Run → Drawn → Outcome
call_of r d = run_call r.list (board_of r d) d.marks

-- the cycles that have run: all of an accepted list, none of a refused one
unfoldable pub ran : Run → Drawn → List Cycle
ran r d = leaves (call_of r d).given.number [] (cycles_of r.list)

-- what it leaves
abbrev pub after : Run → Drawn → Drawn
after r d = drawn (call_of r d).after.memory (call_of r d).marks

-- ---- runs in order

-- of any kind, each on what the one before left
unfoldable pub in_order : {R : Type 0} → (R → Drawn → Drawn) → List R → Drawn → Drawn
in_order step [] d = d
in_order step (r ∷ rs) d = in_order step rs (step r d)

abbrev pub after_all : List Run → Drawn → Drawn
after_all = in_order after

unfoldable pub ran_all : List Run → Drawn → List Cycle
ran_all [] d = []
ran_all (r ∷ rs) d = ran r d ++ ran_all rs (after r d)

-- ---- since a clearing

-- a memory, and marks that have just been cleared
abbrev pub since : List ℕ → List ℕ → Drawn
since memory marks = drawn memory (clear_call marks).marks

-- the cycles that runs have performed since, and what the memory and the marks are then
abbrev pub ran_since : List ℕ → List ℕ → List Run → List Cycle
ran_since memory marks rs = ran_all rs (since memory marks)

abbrev pub memory_since : List ℕ → List ℕ → List Run → List ℕ
memory_since memory marks rs = (after_all rs (since memory marks)).memory

abbrev pub marks_since : List ℕ → List ℕ → List Run → List ℕ
marks_since memory marks rs = (after_all rs (since memory marks)).marks
