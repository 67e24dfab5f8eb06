-- What is refused by numbers alone: document 01, "Numbers given back", and M-107. The lowest number wins. Assumes nothing.
use Rattle.std.specs.Prelude.{ℕ, ◌%◌, Bool, ◌&&◌, ◌||◌, eqb, leb, ltb}
use Rattle.numbers.specs.Refuse.{refuse}

-- ---- 2: the memory's length

-- 512 words to a row, 1 to 512 rows
abbrev pub fitted : ℕ → Bool
fitted words = (leb 512 words && leb words 262144) && eqb (words % 512) 0

-- ---- 5 to 10, and 19: a cycle, for the rows fitted and whether a full transfer has been made

-- the numbers that refuse a cycle, and so a field of a list that can be read; and the highest
abbrev pub refusing : ℕ → Bool
refusing n = (leb 5 n && leb n 10) || eqb n 19

abbrev pub highest : ℕ
highest = 19

abbrev pub strobes_ok : ℕ → Bool
strobes_ok strobes = leb 1 strobes && leb strobes 3

-- plain (0) with no mask, or masked (1)
abbrev pub masking_ok : ℕ → ℕ → Bool
masking_ok masking mask = (eqb masking 0 && eqb mask 0) || eqb masking 1

-- the length of a partition of the serial register: one of the four that the sheet has codes for
abbrev pub partition_ok : ℕ → Bool
partition_ok length = ((eqb length 16 || eqb length 32) || eqb length 64) || eqb length 128

abbrev pub placed : ℕ → ℕ → ℕ → ℕ → ℕ → ℕ
placed rows row column strobes later = refuse (ltb row rows) 5 (refuse (leb column 511) 6 (refuse (strobes_ok strobes) 7 later))

unfoldable pub write_refusal : ℕ → ℕ → ℕ → ℕ → ℕ → ℕ → ℕ
write_refusal rows row column masking mask strobes = placed rows row column strobes (refuse (masking_ok masking mask) 8 0)

unfoldable pub load_refusal : ℕ → ℕ
load_refusal strobes = refuse (strobes_ok strobes) 7 0

unfoldable pub full_refusal : ℕ → ℕ → ℕ → ℕ
full_refusal rows row half = refuse (ltb row rows) 5 (refuse (leb half 1) 9 0)

unfoldable pub split_refusal : ℕ → Bool → ℕ → ℕ → ℕ → ℕ
split_refusal rows loaded row half tap = refuse (ltb row rows) 5 (refuse (leb half 1 && leb tap 127) 9 (refuse loaded 10 0))

unfoldable pub stop_refusal : ℕ → ℕ
stop_refusal length = refuse (partition_ok length) 19 0
