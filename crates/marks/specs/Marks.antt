-- Marks of rows as bits of bytes, and what sets them: change request M-104. Assumes nothing.
use Rattle.std.specs.Prelude.{◌≡◌, ℕ, zero, suc, ◌/◌, ◌%◌, ◌^◌, ◌≤◌, ◌<◌, Bool, true, false, ◌||◌, cond, List, [], ◌∷◌, get_or, set, replicate}
use Rattle.std.specs.Int.Bits.{bit_or}
use Rattle.words.specs.Bit.{bit}
use Rattle.vram.specs.declared.Cycle.{Cycle}
use Rattle.vram.specs.declared.Cycle.TheVariants.{WordWrite, BlockWrite, LoadColour, LoadMask, ResetRefresh, FullTransfer, SplitTransfer, StopPoints}
use Rattle.vram.specs.Kinds.{names}
use Rattle.std.specs.Prelude.{Option}
use Rattle.std.specs.Prelude.Option.{None, Some}

-- row r is marked: bit r mod 8 of byte r / 8
unfoldable pub is_marked : List ℕ → ℕ → Bool
is_marked marks r = bit (get_or marks (r / 8) 0) (r % 8)

-- no row is marked: 64 zeros
abbrev pub no_marks : List ℕ
no_marks = replicate 64 0

-- the marks with row r's set
unfoldable pub mark : ℕ → List ℕ → List ℕ
mark r marks = set marks (r / 8) (bit_or (get_or marks (r / 8) 0) (2 ^ (r % 8)))

-- the marks with some rows' set
unfoldable pub marking : List ℕ → List ℕ → List ℕ
marking [] marks = marks
marking (r ∷ rows) marks = marking rows (mark r marks)

-- the rows that a cycle writes to, whatever it changes there: a word or block write has the one that it names, and no other cycle writes to
-- the memory
unfoldable pub written_by : Cycle → List ℕ
written_by (WordWrite row column word masking mask strobes) = row ∷ []
written_by (BlockWrite row column columns masking mask strobes) = row ∷ []
written_by (LoadColour word strobes) = []
written_by (LoadMask word strobes) = []
written_by ResetRefresh = []
written_by (FullTransfer row half tap) = []
written_by (SplitTransfer row half tap) = []
written_by (StopPoints length) = []

-- the marks after a cycle that has run
unfoldable pub marked_by : Cycle → List ℕ → List ℕ
marked_by c marks = marking (written_by c) marks

-- and after cycles in order
unfoldable pub marked_by_all : List Cycle → List ℕ → List ℕ
marked_by_all [] marks = marks
marked_by_all (c ∷ l) marks = marked_by_all l (marked_by c marks)

-- one of some cycles is a word or block write that names row r
unfoldable pub named_in : ℕ → List Cycle → Bool
named_in r [] = false
named_in r (c ∷ l) = names r c || named_in r l

-- the first marked of n rows from r on
unfoldable pub first_marked : List ℕ → ℕ → ℕ → Option ℕ
first_marked marks r zero = None
first_marked marks r (suc n) = cond (is_marked marks r) (Some r) (first_marked marks (suc r) n)

-- what is found is the least marked of the rows from r up to an end; none, where none of them is marked
abbrev pub Least : List ℕ → ℕ → ℕ → Option ℕ → Type 0
Least marks r end None = (q : ℕ) → r ≤ q → q < end → is_marked marks q ≡ false
Least marks r end (Some s) = (r ≤ s) × (s < end) × (is_marked marks s ≡ true) × ((q : ℕ) → r ≤ q → q < s → is_marked marks q ≡ false)
