-- What each export answers and leaves: what the call below does, with the state handed back; 1 where no `Vram` can be so. Assumes nothing.
use Rattle.std.specs.Prelude.{ℕ, List}
use Rattle.vram.specs.Board.{board, effect}
use Rattle.vram.specs.Step.{Engine}
use Rattle.registers.specs.declared.Registers.{Registers}
use Rattle.registers.specs.declared.Ran.{Ran}
use Rattle.registers.specs.State.{taking, handed_answer, excluded_ran}
use Rattle.marks.specs.Calls.{Marked as Below, Outcome, run_call_by, answered}
use Rattle.marks_c.specs.declared.Marked.{Marked}

-- ---- a list with marks

pub record Listed : Type 0 where
  pub answer : Ran
  pub memory : List ℕ
  pub serial : List ℕ
  pub marks : List ℕ

abbrev pub listed : Ran → List ℕ → List ℕ → List ℕ → Listed
listed r m q marks = record { answer = r; memory = m; serial = q; marks = marks }

abbrev pub list_answer : Outcome → Listed
list_answer o =
    listed (handed_answer o.given o.after.state) o.after.memory o.after.serial o.marks

-- by any engine
unfoldable pub marked_call_by : Engine → Registers → List ℕ → List ℕ → List ℕ → List ℕ → Listed
marked_call_by e s m q marks list =
    taking s (λ v. list_answer (run_call_by e list (board v m q) marks)) (listed (excluded_ran s) m q marks)

-- by the engine of the rules
abbrev pub marked_call : Registers → List ℕ → List ℕ → List ℕ → List ℕ → Listed
marked_call = marked_call_by effect

-- ---- the next marked row: its number and values

unfoldable pub handed_next : Below → Marked
handed_next m = let v = answered m in record { number = v.number; found = v.found; row = v.row }
