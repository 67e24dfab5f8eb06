-- A fill and the list that it plans: document 01, "Lists and fills". Assumes nothing.
use Rattle.std.specs.Prelude.{ℕ, zero, suc, ◌+◌, ◌*◌, ◌/◌, ◌%◌, Bool, true, false, ◌&&◌, ◌||◌, cond, List, [], ◌∷◌, map, eqb, leb, length}
use Rattle.numbers.specs.Between.{between}
use Rattle.words.specs.Bit.{of_bits}
use Rattle.vram.specs.declared.Cycle.{Cycle}
use Rattle.vram.specs.declared.Cycle.TheVariants.{WordWrite, BlockWrite, LoadColour}
use Rattle.planner.specs.declared.Fill as declared

-- what a fill takes; the ends are not included
abbrev pub Fill : Type 0
Fill = declared.Fill

abbrev pub fill : ℕ → ℕ → ℕ → ℕ → ℕ → ℕ → ℕ → ℕ → Fill
fill rows first_row end_row first_column end_column mask colour persistent =
    record {
      rows = rows;
      first_row = first_row;
      end_row = end_row;
      first_column = first_column;
      end_column = end_column;
      mask = mask;
      colour = colour;
      persistent = persistent;
    }

-- ---- words and blocks by their numbers: word a is in row a / 512, column a % 512; block k is words 4k to 4k + 3

-- word a lies in the rectangle
unfoldable pub inside : Fill → ℕ → Bool
inside f a = between f.first_row f.end_row (a / 512) && between f.first_column f.end_column (a % 512)

-- a word of block k does
unfoldable pub touched : Fill → ℕ → Bool
touched f k = (inside f (4 * k) || inside f (4 * k + 1)) || (inside f (4 * k + 2) || inside f (4 * k + 3))

-- of n numbers from `at` on those that pass a test, going up
unfoldable pub picked : (ℕ → Bool) → ℕ → ℕ → List ℕ
picked p at zero = []
picked p at (suc n) = cond (p at) (at ∷ picked p (suc at) n) (picked p (suc at) n)

-- the words covered and the blocks touched: rows go up, then columns
abbrev pub covered_words : Fill → List ℕ
covered_words f = picked (inside f) 0 (512 * f.rows)

abbrev pub touched_blocks : Fill → List ℕ
touched_blocks f = picked (touched f) 0 (128 * f.rows)

-- how many they are
abbrev pub W : Fill → ℕ
W f = length (covered_words f)

abbrev pub B : Fill → ℕ
B f = length (touched_blocks f)

-- ---- the cycles: each write masked with M, strobes both

abbrev pub word_write : Fill → ℕ → Cycle
word_write f a = WordWrite (a / 512) (a % 512) f.colour 1 f.mask 3

-- the four column bits of block k, in all four quads
unfoldable pub columns_of : Fill → ℕ → ℕ
columns_of f k = of_bits 16 (λ b. inside f (4 * k + b % 4))

-- a block write names the block's first column
abbrev pub block_write : Fill → ℕ → Cycle
block_write f k = BlockWrite (k / 128) (4 * (k % 128)) (columns_of f k) 1 f.mask 3

-- ---- the list: words where W is at most 1 + B, else one colour load with both strobes and a block write for each block

abbrev pub by_words : Fill → List Cycle
by_words f = map (word_write f) (covered_words f)

abbrev pub by_blocks : Fill → List Cycle
by_blocks f = LoadColour f.colour 3 ∷ map (block_write f) (touched_blocks f)

-- blocks are used
abbrev pub uses_blocks : Fill → Bool
uses_blocks f = cond (eqb f.mask 0) false (cond (leb (W f) (1 + B f)) false true)

unfoldable pub plan : Fill → List Cycle
plan f = cond (eqb f.mask 0) [] (cond (leb (W f) (1 + B f)) (by_words f) (by_blocks f))
