-- A word written bit by bit, and the bits that a column has left: change request M-105. Assumes nothing.
use Rattle.std.specs.Prelude.{ℕ, zero, suc, Bool, ◌&&◌, cond, eqb}
use Rattle.words.specs.Bit.{bit, of_bits}
use Rattle.words.specs.Word.{covers, lets}

-- ---- one bit

-- the word with bit b set or not, every other bit as it was
unfoldable pub with_bit : ℕ → ℕ → Bool → ℕ
with_bit word b set = of_bits 16 (λ i. cond (eqb i b) set (bit word i))

-- bits 0 to k - 1 of a word one after the other: each becomes what a rule makes of its number and of itself
unfoldable pub bit_by_bit : (ℕ → Bool → Bool) → ℕ → ℕ → ℕ
bit_by_bit rule word zero = word
bit_by_bit rule word (suc k) = let before = bit_by_bit rule word k in with_bit before k (rule k (bit before k))

-- ---- a word write

-- bit b takes the data bit exactly where strobes and mask allow it; elsewhere it stays
abbrev pub takes : ℕ → ℕ → ℕ → ℕ → Bool → Bool
takes new mask strobes b old = cond (covers strobes b && bit mask b) (bit new b) old

unfoldable pub written : ℕ → ℕ → ℕ → ℕ → ℕ
written old new mask strobes = bit_by_bit (takes new mask strobes) old 16

-- ---- a column of a block

-- bit b of a mask stays where the column mask lets it through in column j
abbrev pub stays : ℕ → ℕ → ℕ → Bool → Bool
stays columns j b old = lets columns j b && old

-- the bits of a mask that column j has left
unfoldable pub bits_left : ℕ → ℕ → ℕ → ℕ
bits_left columns j mask = bit_by_bit (stays columns j) mask 16
