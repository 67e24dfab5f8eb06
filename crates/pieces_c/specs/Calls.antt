-- What each export answers and leaves: what the call below does, with state and line handed back; 1 where no `Vram` or no line can be so.
-- Assumes nothing.
use Rattle.std.specs.Prelude.{ℕ, ◌&&◌, cond, List}
use Rattle.vram.specs.declared.Vram.{Vram}
use Rattle.vram.specs.Board.{board}
use Rattle.registers.specs.declared.Registers.{Registers}
use Rattle.registers.specs.State.{lawful, taken}
use Rattle.pieces.specs.declared.Pieces.{Pieces as Below}
use Rattle.pieces.specs.Calls.{Outcome, take_call as below_take, end_call as below_end}
use Rattle.pieces_c.specs.declared.Pieces.{Pieces}
use Rattle.pieces_c.specs.declared.Taken.{Taken}
use Rattle.pieces_c.specs.Line.{line_lawful, taken_line, handed_answer, excluded_taken}

pub record Answered : Type 0 where
  pub answer : Taken
  pub memory : List ℕ
  pub serial : List ℕ

abbrev pub answered : Taken → List ℕ → List ℕ → Answered
answered r m q = record { answer = r; memory = m; serial = q }

abbrev pub answer_of : Outcome → Answered
answer_of o = answered (handed_answer o.given o.after.state o.pieces) o.after.memory o.after.serial

-- a call that takes state and line from C: what it makes of them, and else the answer with number 1
abbrev pub taking : Registers → Pieces → List ℕ → List ℕ → (Vram → Below → Outcome) → Answered
taking s p m q made = cond (lawful s && line_lawful p) (answer_of (made (taken s) (taken_line p))) (answered (excluded_taken s p) m q)

-- a piece
unfoldable pub take_call : Registers → Pieces → List ℕ → List ℕ → List ℕ → Answered
take_call s p m q piece = taking s p m q (λ v l. below_take l piece (board v m q))

-- the list is over
unfoldable pub end_call : Registers → Pieces → List ℕ → List ℕ → Answered
end_call s p m q = taking s p m q (λ v l. below_end l (board v m q))
