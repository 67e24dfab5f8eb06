-- What is refused: document 01, "Numbers given back", and M-107. The lowest number wins. Assumes nothing.
use Rattle.std.specs.Prelude.{ℕ, ◌/◌, Bool, ◌==◌}
use Rattle.numbers.specs.Refuse.{refuse}
use Rattle.refusals.specs.Refusal.{fitted, placed, write_refusal, load_refusal, full_refusal, split_refusal, stop_refusal}
use Rattle.vram.specs.declared.Vram.{Vram}
use Rattle.vram.specs.declared.Cycle.{Cycle}
use Rattle.vram.specs.declared.Cycle.TheVariants.{WordWrite, BlockWrite, LoadColour, LoadMask, ResetRefresh, FullTransfer, SplitTransfer, StopPoints}
use Rattle.vram.specs.State.{ruled}

-- ---- 1 to 3: the state and the lengths given to a call

unfoldable pub given : Vram → ℕ → ℕ → ℕ
given s words serial = refuse (ruled s) 1 (refuse (fitted words) 2 (refuse (serial == 256) 3 0))

-- ---- 5 to 10, and 19: a cycle, for the rows fitted and whether a full transfer has been made

unfoldable pub refusal : ℕ → Bool → Cycle → ℕ
refusal rows loaded (WordWrite row column word masking mask strobes) = write_refusal rows row column masking mask strobes
refusal rows loaded (BlockWrite row column columns masking mask strobes) = write_refusal rows row column masking mask strobes
refusal rows loaded (LoadColour word strobes) = load_refusal strobes
refusal rows loaded (LoadMask word strobes) = load_refusal strobes
refusal rows loaded ResetRefresh = 0
refusal rows loaded (FullTransfer row half tap) = full_refusal rows row half
refusal rows loaded (SplitTransfer row half tap) = split_refusal rows loaded row half tap
refusal rows loaded (StopPoints length) = stop_refusal length

-- ---- a word read

unfoldable pub word_read_refusal : ℕ → ℕ → ℕ → ℕ → ℕ
word_read_refusal words row column strobes = refuse (fitted words) 2 (placed (words / 512) row column strobes 0)
