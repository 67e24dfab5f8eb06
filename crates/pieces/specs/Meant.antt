-- What fields come to that are judged as they run: those before the refused one stay drawn. Assumes nothing.
use Rattle.std.specs.Prelude.{ℕ, ◌+◌, Bool, cond, List, [], ◌∷◌, eqb}
use Rattle.vram.specs.Board.{Board}
use Rattle.std.specs.Prelude.{Option}
use Rattle.list.specs.Fields.{Field, size_of}
use Rattle.list.specs.Open.{open_by}
use Rattle.list.specs.Meaning.{number_of, made_by, bad, left_behind, Outcome, gives}
use Rattle.pieces.specs.Line.{Port, number_on, draws, at_last}

-- one after the other, the first at an offset, with a mask load open or none; at their end what is left behind
unfoldable pub meant : ℕ → List Field → Option ℕ → Board → Outcome
meant at [] left b = gives (left_behind left) b
meant at (f ∷ fs) left b =
    cond (eqb (number_on f b) 0)
    (meant (at + size_of f) fs (open_by at f left) (draws f b))
    (gives (bad (number_on f b) at) b)

-- those before the first that is refused, for the rows fitted and whether a full transfer has been made
unfoldable pub passing : ℕ → Bool → List Field → List Field
passing rows made [] = []
passing rows made (f ∷ fs) = cond (eqb (number_of rows made f) 0) (f ∷ passing rows (made_by f made) fs) []

-- what the last call answers, with the board
abbrev pub ended : Port → Outcome
ended p = gives (at_last p.line) p.on
