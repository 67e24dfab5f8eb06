-- A list with marks of rows from C, by any engine that keeps twins, on memories and serial registers that agree in every high byte: the same
-- answer, the same rows marked, and they still agree. Change request M-110. Assumes nothing.
use Rattle.std.specs.Prelude.{ℕ, ◌≡◌, refl, List}
use Rattle.std.proofs.Common.{ap₂}
use Rattle.vram.specs.declared.Vram.{Vram}
use Rattle.vram.specs.Board.{board}
use Rattle.vram.specs.Step.{Engine}
use Rattle.vram.specs.High.{Agree, Twins, KeepsTwins}
use Rattle.registers.specs.declared.Registers.{Registers}
use Rattle.registers.specs.State.{taken, handed_answer, excluded_ran}
use Rattle.registers.specs.StateLaws.{taking_both}
use Rattle.registers.specs.HighLaws.{with_state}
use Rattle.marks.specs.Calls.{run_call_by}
use Rattle.marks.proofs.HighLaws.{given_twins, marks_twins, after_twins}
use Rattle.marks_c.specs.Calls.{Listed, listed, list_answer, marked_call_by}

pub record TwinListed (o u : Listed) : Type 0 where
  pub answer : o.answer ≡ u.answer
  pub memory : Agree o.memory u.memory
  pub serial : Agree o.serial u.serial
  pub marks : o.marks ≡ u.marks

pub marked_twins : (e : Engine) → KeepsTwins e → (s : Registers) {m n q r : List ℕ} → Agree m n → Agree q r → (marks list : List ℕ)
    → TwinListed (marked_call_by e s m q marks list) (marked_call_by e s n r marks list)
unfolding marked_call_by
marked_twins e keeps s {m} {n} {q} {r} f g marks list =
    taking_both TwinListed s (below m q) (below n r) (listed (excluded_ran s) m q marks) (listed (excluded_ran s) n r marks)
    (record {
      answer = ap₂ handed_answer (given_twins list marks t e keeps) k.state;
      memory = k.memory;
      serial = k.serial;
      marks = marks_twins list marks t e keeps;
    })
    (record { answer = refl; memory = f; serial = g; marks = refl })
  where
    below : List ℕ → List ℕ → Vram → Listed
    below x y v = list_answer (run_call_by e list (board v x y) marks)

    t : Twins (board (taken s) m q) (board (taken s) n r)
    t = with_state (taken s) f g

    k : Twins (run_call_by e list (board (taken s) m q) marks).after (run_call_by e list (board (taken s) n r) marks).after
    k = after_twins list marks t e keeps
