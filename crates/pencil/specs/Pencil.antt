-- The plain engine: what it makes of a board, where nothing is refused. Change request M-105. Assumes nothing.
use Rattle.std.specs.Prelude.{ℕ, ◌+◌, ◌*◌, ◌/◌}
use Rattle.numbers.specs.Refuse.{first_of}
use Rattle.refusals.specs.Refusal.{write_refusal}
use Rattle.vram.specs.declared.Vram.{Vram}
use Rattle.vram.specs.declared.Cycle.TheVariants.{WordWrite, BlockWrite, LoadColour, LoadMask, ResetRefresh, FullTransfer, SplitTransfer, StopPoints}
use Rattle.vram.specs.Board.{board, in_force, effect}
use Rattle.vram.specs.Refusal.{given}
use Rattle.vram.specs.Step.{Engine}
use Rattle.pencil.specs.Memory.{word_written, block_written}

-- what refuses a write: 1 to 3, then 5 to 8
abbrev pub write_number : Vram → ℕ → ℕ → ℕ → ℕ → ℕ → ℕ → ℕ → ℕ
write_number s words serial row column masking mask strobes =
    first_of (given s words serial) (write_refusal (words / 512) row column masking mask strobes)

-- the writes are its own; all else is what `vram` does
unfoldable pub pencil : Engine
pencil (WordWrite row column word masking mask strobes) b =
    board b.state (word_written b.memory (512 * row + column) word (in_force b.state masking mask) strobes) b.serial
pencil (BlockWrite row column columns masking mask strobes) b =
    board b.state
    (block_written b.memory (512 * row + 4 * (column / 4)) b.state.colour columns (in_force b.state masking mask) strobes 4)
    b.serial
pencil (LoadColour word strobes) b = effect (LoadColour word strobes) b
pencil (LoadMask word strobes) b = effect (LoadMask word strobes) b
pencil ResetRefresh b = effect ResetRefresh b
pencil (FullTransfer row half tap) b = effect (FullTransfer row half tap) b
pencil (SplitTransfer row half tap) b = effect (SplitTransfer row half tap) b
pencil (StopPoints length) b = effect (StopPoints length) b
