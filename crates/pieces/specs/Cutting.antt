-- A list that is cut into pieces: each call is lent what the one before it has left, and no other call comes between. Assumes nothing.
use Rattle.std.specs.Prelude.{List, [], ◌∷◌, ℕ}
use Rattle.vram.specs.Board.{Board}
use Rattle.list.specs.Meaning.{Bad}
use Rattle.pieces.specs.declared.Pieces.{Pieces}
use Rattle.pieces.specs.Line.{fresh}
use Rattle.pieces.specs.Pieces.{pack}
use Rattle.pieces.specs.Calls.{Outcome, take_call, end_call}

-- what the pieces answer, in order
unfoldable pub answers : List (List ℕ) → Pieces → Board → List Bad
answers [] p b = []
answers (s ∷ ss) p b = let o = take_call p s b in o.given ∷ answers ss o.pieces o.after

-- what the last call answers and leaves
unfoldable pub ends : List (List ℕ) → Pieces → Board → Outcome
ends [] p b = end_call p b
ends (s ∷ ss) p b = let o = take_call p s b in ends ss o.pieces o.after

-- of a new list
abbrev pub cut_answers : List (List ℕ) → Board → List Bad
cut_answers ss b = answers ss (pack fresh) b

abbrev pub cut_call : List (List ℕ) → Board → Outcome
cut_call ss b = ends ss (pack fresh) b
