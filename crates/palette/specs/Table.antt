-- The palette's table: document 01, "Its table is 768 lent bytes". Assumes nothing.
use Rattle.std.specs.Prelude.{ℕ, ◌+◌, ◌*◌, ◌%◌, List, slice_index, slice_set}

-- red, green, blue
pub record Colour : Type 0 where
  pub red : ℕ
  pub green : ℕ
  pub blue : ℕ

abbrev pub colour : ℕ → ℕ → ℕ → Colour
colour r g b = record { red = r; green = g; blue = b }

-- the low six bits
abbrev pub six : ℕ → ℕ
six byte = byte % 64

abbrev pub sixes : Colour → Colour
sixes c = colour (six c.red) (six c.green) (six c.blue)

-- what stands at entry e: it is at 3e as red, green, blue
abbrev pub entry : List ℕ → ℕ → Colour
entry t e = colour (slice_index t (3 * e)) (slice_index t (3 * e + 1)) (slice_index t (3 * e + 2))

-- the colour that entry e gives: only the low six bits of a byte are read
abbrev pub gives : List ℕ → ℕ → Colour
gives t e = sixes (entry t e)

-- the table with a colour stored at entry e
abbrev pub store : List ℕ → ℕ → Colour → List ℕ
store t e c = slice_set (slice_set (slice_set t (3 * e) c.red) (3 * e + 1) c.green) (3 * e + 2) c.blue
