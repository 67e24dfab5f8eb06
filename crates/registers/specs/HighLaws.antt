-- A list's call from C, by any engine that keeps twins, on memories and serial registers that agree in every high byte: the same answer, and
-- they still agree. Change request M-110. Assumes nothing.
use Rattle.std.specs.Prelude.{ℕ, ◌≡◌, refl, List}
use Rattle.std.proofs.Common.{ap₂}
use Rattle.vram.specs.declared.Vram.{Vram}
use Rattle.vram.specs.Board.{board}
use Rattle.vram.specs.Step.{Engine}
use Rattle.vram.specs.High.{Agree, Twins, KeepsTwins}
use Rattle.list.specs.Meaning.{run_call_by}
use Rattle.list.specs.HighLaws.{given_twins, after_twins}
use Rattle.registers.specs.declared.Registers.{Registers}
use Rattle.registers.specs.State.{taken, handed_answer, excluded_ran}
use Rattle.registers.specs.StateLaws.{taking_both}
use Rattle.registers.specs.Lists.{Listed, listed, list_answer, list_call_by}

pub record TwinListed (o u : Listed) : Type 0 where
  pub answer : o.answer ≡ u.answer
  pub memory : Agree o.memory u.memory
  pub serial : Agree o.serial u.serial

-- boards that were given the same state
pub with_state : (v : Vram) {m n q r : List ℕ} → Agree m n → Agree q r → Twins (board v m q) (board v n r)
with_state v e f = record { state = refl; memory = e; serial = f }

pub list_twins : (e : Engine) → KeepsTwins e → (s : Registers) {m n q r : List ℕ} → Agree m n → Agree q r → (list : List ℕ)
    → TwinListed (list_call_by e s m q list) (list_call_by e s n r list)
unfolding list_call_by
list_twins e keeps s {m} {n} {q} {r} f g list =
    taking_both TwinListed s (below m q) (below n r) (listed (excluded_ran s) m q) (listed (excluded_ran s) n r)
    (record { answer = ap₂ handed_answer (given_twins list t e keeps) k.state; memory = k.memory; serial = k.serial })
    (record { answer = refl; memory = f; serial = g })
  where
    below : List ℕ → List ℕ → Vram → Listed
    below x y v = list_answer (run_call_by e list (board v x y))

    t : Twins (board (taken s) m q) (board (taken s) n r)
    t = with_state (taken s) f g

    k : Twins (run_call_by e list (board (taken s) m q)).after (run_call_by e list (board (taken s) n r)).after
    k = after_twins list t e keeps
