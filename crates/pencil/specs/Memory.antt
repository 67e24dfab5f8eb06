-- Writes to the memory, word by word: change request M-105. Assumes nothing.
use Rattle.std.specs.Prelude.{ℕ, zero, suc, ◌+◌, List, get_or, set}
use Rattle.pencil.specs.Bits.{written, bits_left}

-- a word write at a place, through a mask that is taken as given
unfoldable pub word_written : List ℕ → ℕ → ℕ → ℕ → ℕ → List ℕ
word_written m at new mask strobes = set m at (written (get_or m at 0) new mask strobes)

-- a word write in each of the block's columns below k, through the bits that column has left of the mask
unfoldable pub block_written : List ℕ → ℕ → ℕ → ℕ → ℕ → ℕ → ℕ → List ℕ
block_written m base colour columns mask strobes zero = m
block_written m base colour columns mask strobes (suc k) =
    word_written (block_written m base colour columns mask strobes k) (base + k) colour (bits_left columns k mask) strobes
