-- Accesses one after the other, each handed what the one before left. Assumes nothing.
use Rattle.std.specs.Prelude.{ℕ, List, [], ◌∷◌}
use Rattle.palette.specs.declared.Palette.{Palette}
use Rattle.palette.specs.declared.lent.Byte.{Byte}
use Rattle.palette.specs.Calls.{Outcome, Access, access}

-- number and byte of each answer in order, and the state and the table that are left
pub record Session : Type 0 where
  pub answers : List Byte
  pub state : Palette
  pub table : List ℕ

abbrev pub answered : Outcome → Byte
answered o = record { number = o.answer.number; byte = o.answer.byte }

-- an answer before others
abbrev pub first : Byte → Session → Session
first a s = record { answers = a ∷ s.answers; state = s.state; table = s.table }

unfoldable pub session : List Access → Palette → List ℕ → Session
session [] p t = record { answers = []; state = p; table = t }
session (a ∷ l) p t =
    let o = access a p t in
    first (answered o) (session l o.answer.state o.table)

-- the answer with this byte and number 0
abbrev pub done_with : ℕ → Byte
done_with byte = record { number = 0; byte = byte }
