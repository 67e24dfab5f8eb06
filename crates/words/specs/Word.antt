-- Words of 16 bits: document 01, "Cycles on the memory". Assumes nothing.
use Rattle.std.specs.Prelude.{ℕ, ◌+◌, ◌*◌, ◌/◌, Bool, cond}
use Rattle.words.specs.Bit.{bit, of_bits}

-- the word whose bit b is new's where `through` says so, and old's elsewhere
unfoldable pub merged : ℕ → ℕ → (ℕ → Bool) → ℕ
merged old new through = of_bits 16 (λ b. cond (through b) (bit new b) (bit old b))

-- the strobes cover bit b: 1 the low byte, 2 the high byte, 3 both, so they are two flags, one for each eight bits
unfoldable pub covers : ℕ → ℕ → Bool
covers strobes b = bit strobes (b / 8)

-- the column mask lets bit b of the block's column j through
unfoldable pub lets : ℕ → ℕ → ℕ → Bool
lets columns j b = bit columns (4 * (b / 4) + j)

-- the high byte of a word: the status mark
unfoldable pub high : ℕ → ℕ
high word = word / 256
