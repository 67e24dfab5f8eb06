-- The tags of a list, their bodies' lengths and what a body says: document 01, "Lists and fills", and change request M-107. How a cycle
-- is written is in `Encode`; the code has the same tables in `fields.rt`, `checks.rt` and `runs.rt`. Assumes nothing.
use Rattle.std.specs.Prelude.{ℕ, ◌+◌, ◌*◌, Bool, ◌&&◌, ◌||◌, cond, List, eqb, leb, get_or}
use Rattle.vram.specs.declared.Cycle.{Cycle}
use Rattle.vram.specs.declared.Cycle.TheVariants.{WordWrite, BlockWrite, LoadColour, LoadMask, ResetRefresh, FullTransfer, SplitTransfer, StopPoints}

-- the byte at a place
abbrev pub byte : List ℕ → ℕ → ℕ
byte s i = get_or s i 0

-- the number of two bytes at a place, high byte first
unfoldable pub word : List ℕ → ℕ → ℕ
word s i = byte s i * 256 + byte s (i + 1)

-- the tags are 1 to 7, and 9
unfoldable pub known : ℕ → Bool
known tag = (leb 1 tag && leb tag 7) || eqb tag 9

-- a body's length: ten bytes for a write, three for a load, none for a reset refresh, four for a transfer, one for stop points
unfoldable pub len_of : ℕ → ℕ
len_of tag = cond (leb tag 2) 10 (cond (leb tag 4) 3 (cond (eqb tag 5) 0 (cond (leb tag 7) 4 1)))

-- the cycle that a body says
unfoldable pub cycle_of : ℕ → List ℕ → Cycle
cycle_of tag b =
    cond (eqb tag 1) (WordWrite (word b 0) (word b 2) (word b 4) (byte b 6) (word b 7) (byte b 9))
    (cond (eqb tag 2) (BlockWrite (word b 0) (word b 2) (word b 4) (byte b 6) (word b 7) (byte b 9))
    (cond (eqb tag 3) (LoadColour (word b 0) (byte b 2))
    (cond (eqb tag 4) (LoadMask (word b 0) (byte b 2))
    (cond (eqb tag 6) (FullTransfer (word b 0) (byte b 2) (byte b 3))
    (cond (eqb tag 7) (SplitTransfer (word b 0) (byte b 2) (byte b 3))
    (cond (eqb tag 9) (StopPoints (byte b 0))
    ResetRefresh))))))
