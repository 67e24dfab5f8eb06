-- The table, 64 lent words of thirteen bits: change request M-112. Assumes nothing.
use Rattle.std.specs.Prelude.{ℕ, ◌+◌, ◌*◌, ◌/◌, ◌%◌, List, get_or}

-- the word at an address: bits above the thirteenth are not read
abbrev pub word_at : List ℕ → ℕ → ℕ
word_at t address = get_or t address 0 % 8192

-- its low eight bits, and its high five
abbrev pub low_of : ℕ → ℕ
low_of word = word % 256

abbrev pub high_of : ℕ → ℕ
high_of word = word / 256 % 32

-- the word of a low part and a high part: bits 5 to 7 of the high one are ignored
abbrev pub joined : ℕ → ℕ → ℕ
joined low high = low + 256 * (high % 32)
