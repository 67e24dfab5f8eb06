-- The bytes of a fill's list as the code stores them: a write by its place, a row of writes, rows. Assumes nothing.
use Rattle.std.specs.Prelude.{ℕ, zero, suc, ◌+◌, ◌*◌, ◌/◌, ◌%◌, cond, List, [], ◌∷◌, ◌++◌, eqb}
use Rattle.numbers.specs.Between.{between}
use Rattle.words.specs.Bit.{of_bits}

-- what g gives for n numbers from `at` on, joined
unfoldable pub series : {A : Type 0} → (ℕ → List A) → ℕ → ℕ → List A
series g at zero = []
series g at (suc n) = g at ++ series g (suc at) n

-- row and column as one number, and its four bytes
abbrev pub place_of : ℕ → ℕ → ℕ
place_of row column = 65536 * row + column

abbrev pub place_bytes : ℕ → List ℕ
place_bytes place = place / 16777216 ∷ place / 65536 % 256 ∷ place / 256 % 256 ∷ place % 256 ∷ []

-- tag and length of a write
abbrev pub tag_bytes : ℕ → List ℕ
tag_bytes tag = tag ∷ 0 ∷ 10 ∷ []

-- data or column mask, masked, the mask, both strobes
abbrev pub rest_bytes : ℕ → ℕ → List ℕ
rest_bytes value mask = value / 256 ∷ value % 256 ∷ 1 ∷ mask / 256 ∷ mask % 256 ∷ 3 ∷ []

abbrev pub write_at : ℕ → ℕ → ℕ → ℕ → List ℕ
write_at tag place value mask = tag_bytes tag ++ (place_bytes place ++ rest_bytes value mask)

abbrev pub load_bytes : ℕ → List ℕ
load_bytes colour = 3 ∷ 0 ∷ 3 ∷ colour / 256 ∷ colour % 256 ∷ 3 ∷ []

-- n writes of one value, the place going up by `step`
unfoldable pub row_bytes : ℕ → ℕ → ℕ → ℕ → ℕ → ℕ → List ℕ
row_bytes tag place step value mask n = series (λ i. write_at tag (place + step * i) value mask) 0 n

-- rows of word writes
unfoldable pub word_rows : ℕ → ℕ → ℕ → ℕ → ℕ → ℕ → List ℕ
word_rows column width colour mask row height = series (λ r. row_bytes 1 (place_of r column) 1 colour mask width) row height

-- ---- blocks

-- the column mask of block k in a row of the rectangle
unfoldable pub columns_in : ℕ → ℕ → ℕ → ℕ
columns_in first_column end_column k = of_bits 16 (λ b. between first_column end_column (4 * k + b % 4))

-- of n blocks in a row the first and the last may be covered in part, those between are whole
abbrev pub columns_at : ℕ → ℕ → ℕ → ℕ → ℕ
columns_at first last n i = cond (eqb i 0) first (cond (eqb (suc i) n) last 65535)

unfoldable pub block_row : ℕ → ℕ → ℕ → ℕ → ℕ → ℕ → List ℕ
block_row block first last mask n row = series (λ i. write_at 2 (place_of row (4 * block) + 4 * i) (columns_at first last n i) mask) 0 n

unfoldable pub block_rows : ℕ → ℕ → ℕ → ℕ → ℕ → ℕ → ℕ → List ℕ
block_rows block first last mask n row height = series (block_row block first last mask n) row height
