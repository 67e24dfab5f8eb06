-- What a cycle makes of the registers and of the serial register, as one record, as `Writes` is for the memory: laws about them then
-- need no cases on the cycle. Assumes nothing.
use Rattle.std.specs.Prelude.{◌≡◌, ℕ, ◌+◌, ◌*◌, true, false, List, refl}
use Rattle.std.proofs.Common.{ap, add-zero}
use Rattle.words.specs.Word.{merged, covers}
use Rattle.vram.specs.declared.Vram.{Vram}
use Rattle.vram.specs.declared.Waiting.TheVariants.{None, Tap}
use Rattle.vram.specs.declared.Stop.TheVariants.{Every128}
use Rattle.vram.specs.declared.Cycle.{Cycle}
use Rattle.vram.specs.declared.Cycle.TheVariants.{WordWrite, BlockWrite, LoadColour, LoadMask, ResetRefresh, FullTransfer, SplitTransfer, StopPoints}
use Rattle.vram.specs.State.{stop_of, with_colour, with_mask, with_serial, with_stop, other}
use Rattle.vram.specs.Memory.{puts, copied}
use Rattle.vram.specs.Board.{Board, board, effect}
use Rattle.vram.specs.Writes.{writes, written}

-- the registers afterwards; `count` words of the memory from `from` on go to the serial register from `to` on
pub record Sets : Type 0 where
  pub state : Vram
  pub from : ℕ
  pub to : ℕ
  pub count : ℕ

-- the registers, and no word of the serial register
abbrev pub registers : Vram → Sets
registers s = record { state = s; from = 0; to = 0; count = 0 }

unfoldable pub sets : Cycle → Vram → Sets
sets (WordWrite row column word masking mask strobes) s = registers s
sets (BlockWrite row column columns masking mask strobes) s = registers s
sets (LoadColour word strobes) s = registers (with_colour s (merged s.colour word (covers strobes)))
sets (LoadMask word strobes) s = registers (with_mask s (merged s.mask word (covers strobes)) true)
sets ResetRefresh s = registers (with_stop (with_mask s s.mask false) Every128)
sets (FullTransfer row half tap) s = record { state = with_serial s true tap None; from = 512 * row + 256 * half; to = 0; count = 256 }
sets (SplitTransfer row half tap) s =
    let h = other s.pointer in
    record {
      state = with_serial s s.loaded s.pointer (Tap (128 * h + tap));
      from = 512 * row + 256 * half + 128 * h;
      to = 128 * h;
      count = 128;
    }
sets (StopPoints length) s = registers (with_stop s (stop_of length))

-- the serial register afterwards
abbrev pub sent : Sets → List ℕ → List ℕ → List ℕ
sent t m r = copied m t.from r t.to t.count

-- what a cycle does is what it writes and what it sets
pub effect_is : (c : Cycle) (b : Board)
    → effect c b ≡ board (sets c b.state).state (written (writes c b.state) b.memory) (sent (sets c b.state) b.memory b.serial)
unfolding effect writes sets puts copied
effect_is (WordWrite row column word masking mask strobes) b = rw (add-zero (512 * row + column))
effect_is (BlockWrite row column columns masking mask strobes) b = refl
effect_is (LoadColour word strobes) b = refl
effect_is (LoadMask word strobes) b = refl
effect_is ResetRefresh b = refl
effect_is (FullTransfer row half tap) b = refl
effect_is (SplitTransfer row half tap) b = refl
effect_is (StopPoints length) b = refl

pub effect_writes : (c : Cycle) (b : Board) → (effect c b).memory ≡ written (writes c b.state) b.memory
effect_writes c b = ap (λ (x : Board). x.memory) (effect_is c b)
