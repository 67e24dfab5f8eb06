-- The plain engine does what the rules' engine does: from one bit to a word, to a block, to a cycle. Assumes nothing.
use Rattle.std.specs.Prelude.{◌≡◌, refl, Bool, true, false, ◌&&◌, get_or, set}
use Rattle.std.proofs.Math.Path.{sym, ap}
use Rattle.std.proofs.Common.{◌∙◌, List, ℕ, zero, suc, ◌+◌, ◌*◌, ◌/◌, ◌<◌}
use Rattle.words.specs.Bit.{bit}
use Rattle.words.specs.Word.{covers, lets}
use Rattle.words.specs.WordLaws.{merged_cong}
use Rattle.vram.specs.declared.Cycle.{Cycle}
use Rattle.vram.specs.declared.Cycle.TheVariants.{WordWrite, BlockWrite, LoadColour, LoadMask, ResetRefresh, FullTransfer, SplitTransfer, StopPoints}
use Rattle.vram.specs.Memory.{put, puts}
use Rattle.vram.specs.MemoryLaws.{put_is, puts_none, puts_next}
use Rattle.vram.specs.Board.{Board, board, in_force, allowed, effect}
use Rattle.vram.proofs.CaseLaws.{effect_word, effect_block}
use Rattle.vram.specs.High.{KeepsTwins}
use Rattle.vram.proofs.HighLaws.{effect_twins}
use Rattle.pencil.specs.Bits.{bits_left}
use Rattle.pencil.specs.BitLaws.{written_merged, left_bit}
use Rattle.pencil.specs.Memory.{word_written, block_written}
use Rattle.pencil.specs.Pencil.{pencil}

-- a word write, where what strobes and mask allow is known bit by bit
word_put : (m : List ℕ) (at new mask strobes : ℕ) (w : ℕ → Bool) → ((b : ℕ) → b < 16 → (covers strobes b && bit mask b) ≡ w b)
    → word_written m at new mask strobes ≡ put m at new w
unfolding word_written
word_put m at new mask strobes w e =
    ap (set m at) (written_merged (get_or m at 0) new mask strobes ∙ merged_cong (get_or m at 0) new (λ b. covers strobes b && bit mask b) w e)
    ∙ sym (put_is m at new w)

-- a column's bit: strobe, column mask and mask in force, in either order
in_turn : (strobe column mask : Bool) → (strobe && (column && mask)) ≡ (column && (strobe && mask))
in_turn true column mask = refl
in_turn false true mask = refl
in_turn false false mask = refl

-- columns below k
module _ (m : List ℕ) (base colour columns mask strobes : ℕ) where
  abbrev through : ℕ → ℕ → Bool
  through j b = lets columns j b && (covers strobes b && bit mask b)

  column_bit : (j b : ℕ) → b < 16 → (covers strobes b && bit (bits_left columns j mask) b) ≡ through j b
  column_bit j b h = ap (λ (t : Bool). covers strobes b && t) (left_bit columns j mask b h) ∙ in_turn (covers strobes b) (lets columns j b) (bit mask b)

  block_puts : (k : ℕ) → block_written m base colour columns mask strobes k ≡ puts m base colour through k
  unfolding block_written
  block_puts zero = sym (puts_none m base colour through)
  block_puts (suc k) =
      word_put (block_written m base colour columns mask strobes k) (base + k) colour (bits_left columns k mask) strobes (through k) (column_bit k)
      ∙ ap (λ (l : List ℕ). put l (base + k) colour (through k)) (block_puts k)
      ∙ sym (puts_next m base colour through k)

-- a cycle
pub pencil_effect : (c : Cycle) (b : Board) → pencil c b ≡ effect c b
unfolding pencil
pencil_effect (WordWrite row column word masking mask strobes) b =
    ap (λ (m : List ℕ). board b.state m b.serial)
    (word_put b.memory (512 * row + column) word (in_force b.state masking mask) strobes (allowed b.state masking mask strobes) (λ i h. refl))
    ∙ sym (effect_word row column word masking mask strobes b)
pencil_effect (BlockWrite row column columns masking mask strobes) b =
    ap (λ (m : List ℕ). board b.state m b.serial)
    (block_puts b.memory (512 * row + 4 * (column / 4)) b.state.colour columns (in_force b.state masking mask) strobes 4)
    ∙ sym (effect_block row column columns masking mask strobes b)
pencil_effect (LoadColour word strobes) b = refl
pencil_effect (LoadMask word strobes) b = refl
pencil_effect ResetRefresh b = refl
pencil_effect (FullTransfer row half tap) b = refl
pencil_effect (SplitTransfer row half tap) b = refl
pencil_effect (StopPoints length) b = refl

-- so it keeps twins as that does
pub pencil_twins : KeepsTwins pencil
pencil_twins c a b t = rw (pencil_effect c a, pencil_effect c b) (effect_twins c a b t)
