-- Kinds of cycles: the tags of document 01 and M-107, what a cycle writes to, and what it makes of `loaded` and of persistence. Assumes
-- nothing.
use Rattle.std.specs.Prelude.{ℕ, Bool, true, false, cond, ◌||◌, ◌==◌}
use Rattle.vram.specs.declared.Cycle.{Cycle}
use Rattle.vram.specs.declared.Cycle.TheVariants.{WordWrite, BlockWrite, LoadColour, LoadMask, ResetRefresh, FullTransfer, SplitTransfer, StopPoints}

unfoldable pub tag_of : Cycle → ℕ
tag_of (WordWrite row column word masking mask strobes) = 1
tag_of (BlockWrite row column columns masking mask strobes) = 2
tag_of (LoadColour word strobes) = 3
tag_of (LoadMask word strobes) = 4
tag_of ResetRefresh = 5
tag_of (FullTransfer row half tap) = 6
tag_of (SplitTransfer row half tap) = 7
tag_of (StopPoints length) = 9

-- what it writes to: nothing of the memory, a word, or the block that holds a word; by row and column
pub data Target : Type 0 where
  Nothing : Target
  OneWord : ℕ → ℕ → Target
  OneBlock : ℕ → ℕ → Target

unfoldable pub target_of : Cycle → Target
target_of (WordWrite row column word masking mask strobes) = OneWord row column
target_of (BlockWrite row column columns masking mask strobes) = OneBlock row column
target_of (LoadColour word strobes) = Nothing
target_of (LoadMask word strobes) = Nothing
target_of ResetRefresh = Nothing
target_of (FullTransfer row half tap) = Nothing
target_of (SplitTransfer row half tap) = Nothing
target_of (StopPoints length) = Nothing

abbrev in_row : ℕ → Target → Bool
in_row r Nothing = false
in_row r (OneWord row column) = row == r
in_row r (OneBlock row column) = row == r

-- a word or block write that names row r
unfoldable pub names : ℕ → Cycle → Bool
names r c = in_row r (target_of c)

-- whether a full transfer (tag 6) has been made, after a cycle
unfoldable pub loads : Cycle → Bool → Bool
loads c made = made || tag_of c == 6

-- whether the mask is persistent, after a cycle: from a mask load (tag 4) on, and no longer from a reset refresh (tag 5) on
unfoldable pub persists : Cycle → Bool → Bool
persists c before = cond (tag_of c == 4) true (cond (tag_of c == 5) false before)
