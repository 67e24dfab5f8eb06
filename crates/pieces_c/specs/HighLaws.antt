-- A piece and the last call from C on memories and serial registers that agree in every high byte: the same answer, and they still agree.
-- Change request M-110. Assumes nothing.
use Rattle.std.specs.Prelude.{ℕ, ◌≡◌, refl, Bool, true, false, ◌&&◌, cond, List}
use Rattle.vram.specs.declared.Vram.{Vram}
use Rattle.vram.specs.Board.{board}
use Rattle.vram.specs.High.{Agree}
use Rattle.registers.specs.declared.Registers.{Registers}
use Rattle.registers.specs.State.{lawful, taken}
use Rattle.registers.specs.HighLaws.{with_state}
use Rattle.pieces.specs.declared.Pieces.{Pieces as Below}
use Rattle.pieces.specs.Calls.{Outcome, take_call as below_take, end_call as below_end}
use Rattle.pieces.specs.HighLaws.{TwinOutcomes, take_twins as below_take_alike, end_twins as below_end_alike}
use Rattle.pieces_c.specs.declared.Pieces.{Pieces}
use Rattle.pieces_c.specs.Line.{line_lawful, taken_line, excluded_taken}
use Rattle.pieces_c.specs.Calls.{Answered, answered, answer_of, taking, take_call, end_call}

pub record TwinAnswered (o u : Answered) : Type 0 where
  pub answer : o.answer ≡ u.answer
  pub memory : Agree o.memory u.memory
  pub serial : Agree o.serial u.serial

module _ (s : Registers) (p : Pieces) {m n q r : List ℕ} (f : Agree m n) (g : Agree q r) where
  -- what the calls below make of the state and the line as they are taken
  taking_twins : (made other : Vram → Below → Outcome) → TwinOutcomes (made (taken s) (taken_line p)) (other (taken s) (taken_line p))
      → TwinAnswered (taking s p m q made) (taking s p n r other)
  taking_twins made other k = go (lawful s && line_lawful p)
    where
      go : (t : Bool) → TwinAnswered (cond t (answer_of (made (taken s) (taken_line p))) (answered (excluded_taken s p) m q))
          (cond t (answer_of (other (taken s) (taken_line p))) (answered (excluded_taken s p) n r))
      go true = record { answer = rw (k.given, k.pieces, k.after.state); memory = k.after.memory; serial = k.after.serial }
      go false = record { answer = refl; memory = f; serial = g }

  pub take_twins : (piece : List ℕ) → TwinAnswered (take_call s p m q piece) (take_call s p n r piece)
  unfolding take_call
  take_twins piece =
      taking_twins (λ v l. below_take l piece (board v m q)) (λ v l. below_take l piece (board v n r))
      (below_take_alike (taken_line p) (with_state (taken s) f g) piece)

  pub end_twins : TwinAnswered (end_call s p m q) (end_call s p n r)
  unfolding end_call
  end_twins =
      taking_twins (λ v l. below_end l (board v m q)) (λ v l. below_end l (board v n r)) (below_end_alike (taken_line p) (with_state (taken s) f g))
