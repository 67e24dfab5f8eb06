-- What a cycle aims at, as a bound on lists counts it: the word of a word write, the block of a write, and colour loads.
-- Blocks are numbered through the rows, 128 to a row. Assumes nothing.
use Rattle.std.specs.Prelude.{ℕ, ◌+◌, ◌*◌, ◌/◌, cond, List, [], ◌∷◌, ◌==◌}
use Rattle.vram.specs.declared.Cycle.{Cycle}
use Rattle.vram.specs.Kinds.{tag_of, Target, Nothing, OneWord, OneBlock, target_of}

abbrev word_in : Target → List ℕ
word_in Nothing = []
word_in (OneWord row column) = (512 * row + column) ∷ []
word_in (OneBlock row column) = []

abbrev block_in : Target → List ℕ
block_in Nothing = []
block_in (OneWord row column) = (128 * row + column / 4) ∷ []
block_in (OneBlock row column) = (128 * row + column / 4) ∷ []

-- the word of a word write
unfoldable pub words_of : Cycle → List ℕ
words_of c = word_in (target_of c)

-- the block of a word or block write
unfoldable pub blocks_of : Cycle → List ℕ
blocks_of c = block_in (target_of c)

-- 1 for a colour load (tag 3)
unfoldable pub colours_of : Cycle → ℕ
colours_of c = cond (tag_of c == 3) 1 0
