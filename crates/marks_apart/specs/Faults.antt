-- Two faulty engines, and where each shows: one that lets a result into a mark, and version one's, which ignored the byte strobes on a block
-- write, so that marks went with results. Assumes nothing.
use Rattle.std.specs.Prelude.{ℕ, ◌+◌, ◌*◌, ◌≡◌, List, [], ◌∷◌, get_or, replicate}
use Rattle.vram.specs.declared.Cycle.{Cycle}
use Rattle.vram.specs.declared.Cycle.TheVariants.{WordWrite, BlockWrite, LoadColour, LoadMask, ResetRefresh, FullTransfer, SplitTransfer, StopPoints}
use Rattle.vram.specs.State.{fresh, with_colour}
use Rattle.vram.specs.Board.{Board, board, effect}
use Rattle.vram.specs.Step.{Engine}
use Rattle.vram.specs.High.{Twins}
use Rattle.list.specs.Tags.{word}
use Rattle.list.specs.Meaning.{run_call_by}

-- what the statement of the request says of a list that is run whole, asked of an engine
abbrev pub MarksApart : Engine → Type 0
MarksApart e = (list : List ℕ) (a b : Board) → Twins a b
    → ((run_call_by e list a).given ≡ (run_call_by e list b).given) × Twins (run_call_by e list a).after (run_call_by e list b).after

-- ---- an engine that lets a result into a mark: it is not true of it

-- a word write takes the old result for the new mark, and all else is as the rules say
unfoldable pub leaking : Engine
leaking (WordWrite row column word masking mask strobes) b =
    effect (WordWrite row column (256 * get_or b.memory (512 * row + column) 0) masking mask strobes) b
leaking (BlockWrite row column columns masking mask strobes) b = effect (BlockWrite row column columns masking mask strobes) b
leaking (LoadColour word strobes) b = effect (LoadColour word strobes) b
leaking (LoadMask word strobes) b = effect (LoadMask word strobes) b
leaking ResetRefresh b = effect ResetRefresh b
leaking (FullTransfer row half tap) b = effect (FullTransfer row half tap) b
leaking (SplitTransfer row half tap) b = effect (SplitTransfer row half tap) b
leaking (StopPoints length) b = effect (StopPoints length) b

-- a word write at row 0, column 0
abbrev pub one_write : List ℕ
one_write = 1 ∷ 0 ∷ 10 ∷ 0 ∷ 0 ∷ 0 ∷ 0 ∷ 0 ∷ 0 ∷ 0 ∷ 0 ∷ 0 ∷ 3 ∷ []

-- ---- version one

-- on a block write both bytes were written, whichever the strobes named, and all else is as the rules say
unfoldable pub version_one : Engine
version_one (WordWrite row column word masking mask strobes) b = effect (WordWrite row column word masking mask strobes) b
version_one (BlockWrite row column columns masking mask strobes) b = effect (BlockWrite row column columns masking mask 3) b
version_one (LoadColour word strobes) b = effect (LoadColour word strobes) b
version_one (LoadMask word strobes) b = effect (LoadMask word strobes) b
version_one ResetRefresh b = effect ResetRefresh b
version_one (FullTransfer row half tap) b = effect (FullTransfer row half tap) b
version_one (SplitTransfer row half tap) b = effect (SplitTransfer row half tap) b
version_one (StopPoints length) b = effect (StopPoints length) b

-- what `results_leave_marks` says is not. A row of results 11 with the mark 02, preliminary; over four of them the result 44 is drawn, by a
-- block write to the low byte alone
abbrev pub preliminary : Board
preliminary = board (with_colour fresh 0x0044) (replicate 512 0x0211) (replicate 256 0)

abbrev pub new_result : Cycle
new_result = BlockWrite 0 4 0xFFFF 0 0 1
