-- What a list's call answers and leaves that takes the state from C, by any engine: what the call below does, with the state handed back; 1
-- where no `Vram` can be so. Assumes nothing.
use Rattle.std.specs.Prelude.{ℕ, List}
use Rattle.vram.specs.Board.{board, effect}
use Rattle.vram.specs.Step.{Engine}
use Rattle.list.specs.Meaning.{Outcome, run_call_by}
use Rattle.registers.specs.declared.Registers.{Registers}
use Rattle.registers.specs.declared.Ran.{Ran}
use Rattle.registers.specs.State.{taking, handed_answer, excluded_ran}

pub record Listed : Type 0 where
  pub answer : Ran
  pub memory : List ℕ
  pub serial : List ℕ

abbrev pub listed : Ran → List ℕ → List ℕ → Listed
listed r m q = record { answer = r; memory = m; serial = q }

abbrev pub list_answer : Outcome → Listed
list_answer o =
    listed (handed_answer o.given o.after.state) o.after.memory o.after.serial

unfoldable pub list_call_by : Engine → Registers → List ℕ → List ℕ → List ℕ → Listed
list_call_by e s m q list =
    taking s (λ v. list_answer (run_call_by e list (board v m q))) (listed (excluded_ran s) m q)

-- by the engine of the rules
abbrev pub list_call : Registers → List ℕ → List ℕ → List ℕ → Listed
list_call = list_call_by effect
