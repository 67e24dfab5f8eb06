-- What a cycle does to a slice of words. Assumes nothing.
use Rattle.std.specs.Prelude.{ℕ, zero, suc, ◌+◌, ◌<◌, Bool, List, drop, slice_index, slice_set}
use Rattle.std.proofs.Math.Seq.{paste}
use Rattle.words.specs.Word.{merged}

-- every word has 16 bits
abbrev pub Words : List ℕ → Type 0
Words m = (a : ℕ) → slice_index m a < 65536

-- the word at a place takes new's bits where `through` says so
unfoldable pub put : List ℕ → ℕ → ℕ → (ℕ → Bool) → List ℕ
put m at new through = slice_set m at (merged (slice_index m at) new through)

-- k words from base on do, word j through `through j`
unfoldable pub puts : List ℕ → ℕ → ℕ → (ℕ → ℕ → Bool) → ℕ → List ℕ
puts m base new through zero = m
puts m base new through (suc k) = put (puts m base new through k) (base + k) new (through k)

-- r with its n words from `to` on replaced by those of m from `from` on
unfoldable pub copied : List ℕ → ℕ → List ℕ → ℕ → ℕ → List ℕ
copied m from r to n = paste r to (drop from m) n
