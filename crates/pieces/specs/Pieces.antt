-- The line as the code holds it, and the rule of a line: every line that pieces make meets it (`reached_sound`). Assumes nothing.
use Rattle.std.specs.Prelude.{ℕ, zero, suc, ◌+◌, Bool, true, false, ◌&&◌, ◌||◌, cond, List, [], ◌∷◌, eqb, leb, ltb, length, take, drop}
use Rattle.refusals.specs.Refusal.{refusing}
use Rattle.std.specs.Prelude.{Option}
use Rattle.std.specs.Prelude.Option.{None, Some}
use Rattle.list.specs.Waits.{waits}
use Rattle.pieces.specs.declared.Pieces.{Pieces}
use Rattle.pieces.specs.Line.{Line, line, limit}

-- ---- thirteen bytes: the held ones, then zeros

unfoldable pub pad : ℕ → List ℕ → List ℕ
pad zero s = []
pad (suc k) [] = 0 ∷ pad k []
pad (suc k) (x ∷ s) = x ∷ pad k s

abbrev pub packed : List ℕ → ℕ → ℕ → Option ℕ → Pieces
packed s at number left = record { held = pad 13 s; count = length s; start = at; number = number; left = left }

abbrev pub pack : Line → Pieces
pack l = packed l.held l.start l.number l.left

abbrev pub unpack : Pieces → Line
unpack p = line (take p.count p.held) p.start p.number p.left

-- ---- the rule

unfoldable pub all_zero : List ℕ → Bool
all_zero [] = true
all_zero (x ∷ s) = eqb x 0 && all_zero s

-- the open mask load stands before the unfinished field
abbrev pub before : Option ℕ → ℕ → Bool
before None start = true
before (Some place) start = ltb place start

abbrev pub is_none : Option ℕ → Bool
is_none None = true
is_none (Some place) = false

-- no field is refused: bytes that more may make a field of, within the limit
unfoldable pub going : Line → Bool
going l = (waits l.held && leb (l.start + length l.held) limit) && before l.left l.start

-- one is: with 4, or a number that refuses a cycle; nothing is held, and no mask load is open
unfoldable pub stopped : Line → Bool
stopped l = ((eqb l.number 4 || refusing l.number) && eqb (length l.held) 0) && is_none l.left

unfoldable pub possible : Line → Bool
possible l = cond (eqb l.number 0) (going l) (stopped l)

-- and zeros after the held bytes
unfoldable pub sound : Pieces → Bool
sound p = all_zero (drop p.count p.held) && possible (unpack p)
