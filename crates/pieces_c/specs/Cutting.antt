-- A list in pieces as a C program sends it: each call takes state and line of the answer before, and is lent what that left. Assumes nothing.
use Rattle.std.specs.Prelude.{List, [], ◌∷◌, ℕ}
use Rattle.registers.specs.declared.Registers.{Registers}
use Rattle.pieces.specs.Line.{fresh}
use Rattle.pieces.specs.Pieces.{pack}
use Rattle.pieces_c.specs.declared.Pieces.{Pieces}
use Rattle.pieces_c.specs.Line.{handed_line}
use Rattle.pieces_c.specs.Calls.{Answered, take_call, end_call}

-- what the last call answers and leaves
unfoldable pub ends : List (List ℕ) → Registers → Pieces → List ℕ → List ℕ → Answered
ends [] s p m q = end_call s p m q
ends (piece ∷ ss) s p m q = let o = take_call s p m q piece in ends ss o.answer.state o.answer.pieces o.memory o.serial

-- of a new list
abbrev pub cut_call : List (List ℕ) → Registers → List ℕ → List ℕ → Answered
cut_call ss s m q = ends ss s (handed_line (pack fresh)) m q
