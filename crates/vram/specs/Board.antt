-- What a cycle does to the board, where nothing is refused: document 01, "Cycles on the memory", and M-107. Assumes nothing.
use Rattle.std.specs.Prelude.{ℕ, ◌+◌, ◌*◌, ◌/◌, Bool, true, false, cond, ◌&&◌, List, ◌==◌}
use Rattle.words.specs.Bit.{bit}
use Rattle.words.specs.Word.{merged, covers, lets}
use Rattle.vram.specs.declared.Vram.{Vram}
use Rattle.vram.specs.declared.Waiting.TheVariants.{None, Tap}
use Rattle.vram.specs.declared.Stop.TheVariants.{Every128}
use Rattle.vram.specs.declared.Cycle.{Cycle}
use Rattle.vram.specs.declared.Cycle.TheVariants.{WordWrite, BlockWrite, LoadColour, LoadMask, ResetRefresh, FullTransfer, SplitTransfer, StopPoints}
use Rattle.vram.specs.State.{stop_of, with_colour, with_mask, with_serial, with_stop, other}
use Rattle.vram.specs.Memory.{put, puts, copied}

-- the state, and what is lent
pub record Board : Type 0 where
  pub state : Vram
  pub memory : List ℕ
  pub serial : List ℕ

abbrev pub board : Vram → List ℕ → List ℕ → Board
board s m r = record { state = s; memory = m; serial = r }

-- all ones for plain; for masked the mask register when persistent, else the mask given with the cycle
abbrev pub force : ℕ → Bool → ℕ → ℕ → ℕ
force masking persistent register given = cond (masking == 0) 65535 (cond persistent register given)

-- the mask in force of a cycle on a state
abbrev pub in_force : Vram → ℕ → ℕ → ℕ
in_force s masking mask = force masking s.persistent s.mask mask

-- strobes and mask in force allow bit b
abbrev pub allowed : Vram → ℕ → ℕ → ℕ → ℕ → Bool
allowed s masking mask strobes b = covers strobes b && bit (in_force s masking mask) b

unfoldable pub effect : Cycle → Board → Board
effect (WordWrite row column word masking mask strobes) b =
    board b.state (put b.memory (512 * row + column) word (allowed b.state masking mask strobes)) b.serial
effect (BlockWrite row column columns masking mask strobes) b =
    board b.state
    (puts b.memory (512 * row + 4 * (column / 4)) b.state.colour (λ j i. lets columns j i && allowed b.state masking mask strobes i) 4)
    b.serial
effect (LoadColour word strobes) b =
    board (with_colour b.state (merged b.state.colour word (covers strobes))) b.memory b.serial
effect (LoadMask word strobes) b =
    board (with_mask b.state (merged b.state.mask word (covers strobes)) true) b.memory b.serial
effect ResetRefresh b = board (with_stop (with_mask b.state b.state.mask false) Every128) b.memory b.serial
effect (FullTransfer row half tap) b =
    board (with_serial b.state true tap None) b.memory (copied b.memory (512 * row + 256 * half) b.serial 0 256)
effect (SplitTransfer row half tap) b =
    let h = other b.state.pointer in
    board (with_serial b.state b.state.loaded b.state.pointer (Tap (128 * h + tap)))
    b.memory
    (copied b.memory (512 * row + 256 * half + 128 * h) b.serial (128 * h) 128)
effect (StopPoints length) b = board (with_stop b.state (stop_of length)) b.memory b.serial
