-- A list that comes in pieces: change request M-109. The rule is said of one byte; a piece is its bytes in order. Assumes nothing.
use Rattle.std.specs.Prelude.{ℕ, ◌+◌, cond, eqb, ltb, length}
use Rattle.std.proofs.Common.{List, [], ◌∷◌, ◌++◌}
use mathlib.Core.List.{foldl}
use Rattle.vram.specs.Board.{Board}
use Rattle.vram.specs.Step.{rows_of, step}
use Rattle.list.specs.Meaning.{Bad}
use Rattle.std.specs.Prelude.{Option}
use Rattle.std.specs.Prelude.Option.{None}
use Rattle.list.specs.Fields.{Field, Reads, Unreadable, field_of, size_of}
use Rattle.list.specs.Open.{open_by}
use Rattle.list.specs.Meaning.{number_of, bad, left_behind, first_bad}
use Rattle.list.specs.Waits.{waits}

-- between two bytes: those of the unfinished field, its offset in the list, the number that the list was refused with at that offset or 0,
-- and the mask load that is still open
pub record Line : Type 0 where
  pub held : List ℕ
  pub start : ℕ
  pub number : ℕ
  pub left : Option ℕ

abbrev pub line : List ℕ → ℕ → ℕ → Option ℕ → Line
line held start number left = record { held = held; start = start; number = number; left = left }

-- before a list's first byte
abbrev pub fresh : Line
fresh = line [] 0 0 None

-- refused at an offset: nothing is held, and no mask load is open
abbrev pub refused : ℕ → ℕ → Line
refused number at = line [] at number None

-- the line with what is drawn on
pub record Port : Type 0 where
  pub line : Line
  pub on : Board

abbrev pub port : Line → Board → Port
port l b = record { line = l; on = b }

-- a list has at most this many bytes
unfoldable pub limit : ℕ
limit = 4294967295

-- ---- a field

-- its number where the fields before it have been run
abbrev pub number_on : Field → Board → ℕ
number_on f b = number_of (rows_of b) b.state.loaded f

unfoldable pub draws : Field → Board → Board
draws (Reads c n) b = step c b
draws Unreadable b = b

-- at an offset: it is run, and the next field begins; or it is refused, and those before it stay drawn
unfoldable pub met : ℕ → Field → Option ℕ → Board → Port
met at f left b =
    cond (eqb (number_on f b) 0)
    (port (line [] (at + size_of f) 0 (open_by at f left)) (draws f b))
    (port (refused (number_on f b) at) b)

-- ---- a byte

-- the bytes of one field: held while more may make a field of them
unfoldable pub come : ℕ → List ℕ → Option ℕ → Board → Port
come at s left b = cond (waits s) (port (line s at 0 left) b) (met at (field_of s) left b)

-- a byte more: nothing after a refusal; 4 past the limit, at its field's offset
unfoldable pub feed : Port → ℕ → Port
feed p x =
    cond (eqb p.line.number 0)
    (cond (ltb (p.line.start + length p.line.held) limit)
    (come p.line.start (p.line.held ++ x ∷ []) p.line.left p.on)
    (port (refused 4 p.line.start) p.on))
    p

abbrev pub piece : Port → List ℕ → Port
piece p s = foldl feed p s

-- ---- what is answered

-- by a piece: the refusal that is kept
unfoldable pub so_far : Line → Bad
so_far l = cond (eqb l.number 0) (bad 0 0) (bad l.number l.start)

-- 4 for an unfinished field, at its offset
unfoldable pub unfinished : Line → Bad
unfinished l = cond (eqb (length l.held) 0) (bad 0 0) (bad 4 l.start)

-- by the last call: the refusal that is kept, then an unfinished field, then a mask left behind
unfoldable pub at_last : Line → Bad
at_last l = first_bad (so_far l) (first_bad (unfinished l) (left_behind l.left))
