-- How a list's bytes split into fields: one-byte tag, two-byte length, body. Document 01, "Lists and fills". Assumes nothing.
use Rattle.std.specs.Prelude.{ℕ, ◌+◌, Bool, ◌&&◌, cond, List, eqb, leb, length, take, drop}
use Rattle.vram.specs.declared.Cycle.{Cycle}
use Rattle.list.specs.Tags.{byte, word, known, len_of, cycle_of}
use Rattle.list.specs.Splits.{split}

-- a cycle with its body's length, or a field that cannot be read
pub data Field : Type 0 where
  Reads : Cycle → ℕ → Field
  Unreadable : Field

-- ---- the field at the head of some bytes

abbrev pub tag : List ℕ → ℕ
tag s = byte s 0

abbrev pub body : List ℕ → List ℕ
body s = take (len_of (tag s)) (drop 3 s)

-- its tag is known, and its length is its tag's
abbrev pub headed : List ℕ → Bool
headed s = known (tag s) && eqb (word s 1) (len_of (tag s))

-- and it is not cut short
unfoldable pub whole : List ℕ → Bool
whole s = leb (3 + len_of (tag s)) (length s) && headed s

unfoldable pub field_of : List ℕ → Field
field_of s = cond (whole s) (Reads (cycle_of (tag s) (body s)) (len_of (tag s))) Unreadable

-- how many bytes it takes
unfoldable pub size_of : Field → ℕ
size_of (Reads c n) = 3 + n
size_of Unreadable = 0

-- ---- all fields

-- those after k bytes are passed over
abbrev pub parts : ℕ → List ℕ → List Field
parts k s = split field_of whole (λ b. 2 + len_of b) k s

abbrev pub fields : List ℕ → List Field
fields s = parts 0 s
