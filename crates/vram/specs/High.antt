-- Marks and results: boards that may differ in every low byte and in nothing else, and cycles that reach no high byte. Change request M-110.
-- Assumes nothing.
use Rattle.std.specs.Prelude.{◌≡◌, ℕ, Bool, true, ◌&&◌, ◌||◌, List, [], ◌∷◌, map, ◌==◌, nat_lt}
use Rattle.words.specs.Word.{high}
use Rattle.vram.specs.declared.Vram.{Vram}
use Rattle.vram.specs.declared.Cycle.{Cycle}
use Rattle.vram.specs.declared.Cycle.TheVariants.{WordWrite, BlockWrite, LoadColour, LoadMask, ResetRefresh, FullTransfer, SplitTransfer, StopPoints}
use Rattle.vram.specs.Board.{Board, in_force}
use Rattle.vram.specs.Step.{Engine, step}

-- ---- two boards

-- words that agree in every high byte: as many of them, and at each place the same high byte (`agree_length`, `agree_at`, `agree_from`)
pub record Agree (l m : List ℕ) : Type 0 where
  pub same : map high l ≡ map high m

-- the states are equal, and memories and serial registers agree in every high byte; every low byte may differ
pub record Twins (a b : Board) : Type 0 where
  pub state : a.state ≡ b.state
  pub memory : Agree a.memory b.memory
  pub serial : Agree a.serial b.serial

-- an engine that leaves such boards such
abbrev pub KeepsTwins : Engine → Type 0
KeepsTwins e = (c : Cycle) (a b : Board) → Twins a b → Twins (e c a) (e c b)

-- ---- cycles that reach no high byte

-- a write: its strobes leave the high byte out, or the mask in force has no bit of it
abbrev pub below : Vram → ℕ → ℕ → ℕ → Bool
below s masking mask strobes = strobes == 1 || nat_lt (in_force s masking mask) 256

-- of the other cycles none writes to the memory
unfoldable pub spares : Cycle → Vram → Bool
spares (WordWrite row column word masking mask strobes) s = below s masking mask strobes
spares (BlockWrite row column columns masking mask strobes) s = below s masking mask strobes
spares (LoadColour word strobes) s = true
spares (LoadMask word strobes) s = true
spares ResetRefresh s = true
spares (FullTransfer row half tap) s = true
spares (SplitTransfer row half tap) s = true
spares (StopPoints length) s = true

-- cycles in order, each on the state that those before it leave
unfoldable pub all_spare : List Cycle → Board → Bool
all_spare [] b = true
all_spare (c ∷ l) b = spares c b.state && all_spare l (step c b)
