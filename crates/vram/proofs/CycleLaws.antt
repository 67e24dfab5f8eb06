-- What a cycle changes and what it leaves: the laws by which other crates know `step`. Assumes nothing.
use Rattle.std.specs.Prelude.{◌≡◌, ℕ, ◌+◌, ◌-◌, ◌*◌, ◌/◌, ◌%◌, ◌<◌, Bool, true, false, cond, ◌&&◌, ◌≢◌, List, length, ◌==◌, slice_index, slice_index_or}
use Rattle.std.proofs.Math.Path.{refl, ap}
use Rattle.std.proofs.Common.{ap₂, ◌∙◌, arith, eqb-true, eq-eqb, ne_eqb}
use Rattle.std.proofs.lemmas.Bool.{eqb-false}
use Rattle.numbers.specs.Between.{between_in, between_out}
use Rattle.words.specs.Bit.{bit}
use Rattle.words.specs.Word.{merged, covers, lets}
use Rattle.words.specs.WordLaws.{merged_bit, covers_both}
use Rattle.vram.specs.declared.Vram.{Vram}
use Rattle.vram.specs.declared.Stop.TheVariants.{Every128}
use Rattle.vram.specs.declared.Cycle.{Cycle}
use Rattle.vram.specs.declared.Cycle.TheVariants.{WordWrite, BlockWrite, LoadColour, LoadMask, ResetRefresh, StopPoints}
use Rattle.vram.specs.State.{stop_length, stop_of, with_colour, with_mask, with_stop}
use Rattle.vram.specs.Board.{Board, board, allowed, effect}
use Rattle.vram.specs.Refusal.{refusal}
use Rattle.refusals.specs.RefusalLaws.{Placed, write_zero, word_within, block_within, stop_zero}
use Rattle.vram.specs.MemoryLaws.{among, among_one}
use Rattle.vram.specs.Step.{rows_of, number, step}
use Rattle.vram.specs.StepLaws.{number_zero, step_acts}
use Rattle.vram.specs.Writes.{writes, written, written_at}
use Rattle.vram.proofs.Sets.{effect_writes}
use Rattle.vram.specs.Serial.{length_of}
use Rattle.vram.specs.StopLaws.{stop_length_of}

-- ---- the memory: a cycle that is not refused leaves what `writes` says

pub step_writes : (c : Cycle) (b : Board) → number c b ≡ 0 → (step c b).memory ≡ written (writes c b.state) b.memory
step_writes c b z = ap (λ (x : Board). x.memory) (step_acts effect c b z) ∙ effect_writes c b

module _ (b : Board) (row column word masking mask strobes : ℕ) (z : number (WordWrite row column word masking mask strobes) b ≡ 0) where
  word_placed : Placed (rows_of b) row column
  unfolding refusal
  word_placed = write_zero (rows_of b) row column masking mask strobes (number_zero (WordWrite row column word masking mask strobes) b z).1

  -- a word write, word by word
  pub word_write_at : (a : ℕ) → a < length b.memory
      → slice_index (step (WordWrite row column word masking mask strobes) b).memory a
      ≡ cond (a == 512 * row + column) (merged (slice_index b.memory a) word (allowed b.state masking mask strobes)) (slice_index b.memory a)
  unfolding writes
  word_write_at a h =
      ap (λ (m : List ℕ). slice_index m a) (step_writes (WordWrite row column word masking mask strobes) b z)
      ∙ written_at (writes (WordWrite row column word masking mask strobes) b.state) b.memory a h
      ∙ ap (λ (t : Bool). cond t (merged (slice_index b.memory a) word (allowed b.state masking mask strobes)) (slice_index b.memory a)) (among_one (512 * row + column) a)

  -- bit i of the word named takes the data bit exactly where strobes and mask in force allow it
  pub word_write_bit : (i : ℕ) → i < 16
      → bit (slice_index (step (WordWrite row column word masking mask strobes) b).memory (512 * row + column)) i
      ≡ cond (allowed b.state masking mask strobes i) (bit word i) (bit (slice_index b.memory (512 * row + column)) i)
  word_write_bit i h =
      let a : ℕ = 512 * row + column in
      let old : ℕ = slice_index_or b.memory a 0 in
      ap (λ (n : ℕ). bit n i)
      (word_write_at a (word_within (length b.memory) row column word_placed)
      ∙ ap (λ (t : Bool). cond t (merged old word (allowed b.state masking mask strobes)) old) (eq-eqb a a refl))
      ∙ merged_bit old word (allowed b.state masking mask strobes) i h

  -- every other word stays
  pub word_write_other : (a : ℕ) → a < length b.memory → a ≢ 512 * row + column
      → slice_index (step (WordWrite row column word masking mask strobes) b).memory a ≡ slice_index b.memory a
  word_write_other a h n =
      word_write_at a h
      ∙ ap (λ (t : Bool). cond t (merged (slice_index b.memory a) word (allowed b.state masking mask strobes)) (slice_index b.memory a)) (ne_eqb a (512 * row + column) n)

module _ (b : Board) (row column columns masking mask strobes : ℕ) (z : number (BlockWrite row column columns masking mask strobes) b ≡ 0) where
  block_placed : Placed (rows_of b) row column
  unfolding refusal
  block_placed = write_zero (rows_of b) row column masking mask strobes (number_zero (BlockWrite row column columns masking mask strobes) b z).1

  -- a block write, word by word: block numbers go through the rows, 128 to a row
  pub block_write_at : (a : ℕ) → a < length b.memory
      → slice_index (step (BlockWrite row column columns masking mask strobes) b).memory a
      ≡ cond (a / 4 == 128 * row + column / 4)
      (merged (slice_index b.memory a) b.state.colour (λ i. lets columns (a % 4) i && allowed b.state masking mask strobes i))
      (slice_index b.memory a)
  unfolding writes
  block_write_at a h =
      ap (λ (m : List ℕ). slice_index m a) (step_writes (BlockWrite row column columns masking mask strobes) b z)
      ∙ written_at (writes (BlockWrite row column columns masking mask strobes) b.state) b.memory a h
      ∙ go (a / 4 == 128 * row + column / 4) refl
    where
      drawn : ℕ → ℕ
      drawn j = merged (slice_index b.memory a) b.state.colour (λ i. lets columns j i && allowed b.state masking mask strobes i)

      go : (t : Bool) → (a / 4 == 128 * row + column / 4) ≡ t
          → cond (among (512 * row + 4 * (column / 4)) 4 a) (drawn (a - (512 * row + 4 * (column / 4)))) (slice_index b.memory a) ≡ cond t (drawn (a % 4)) (slice_index b.memory a)
      go true e =
          let k : a / 4 ≡ 128 * row + column / 4 = eqb-true _ _ e in
          let j : a - (512 * row + 4 * (column / 4)) ≡ a % 4 = omega arith in
          ap₂ (λ (t : Bool) (n : ℕ). cond t (drawn n) (slice_index b.memory a)) (between_in (512 * row + 4 * (column / 4)) (512 * row + 4 * (column / 4) + 4) a (omega arith) (omega arith)) j
      go false e =
          let k : a / 4 ≢ 128 * row + column / 4 = eqb-false _ _ e in
          ap (λ (t : Bool). cond t (drawn (a - (512 * row + 4 * (column / 4)))) (slice_index b.memory a))
          (between_out (512 * row + 4 * (column / 4)) (512 * row + 4 * (column / 4) + 4) a (λ h. k (omega arith)))

  -- bit i of the block's column j takes the colour's bit exactly where column mask, strobes and mask in force allow it
  pub block_write_bit : (j i : ℕ) → j < 4 → i < 16
      → bit (slice_index (step (BlockWrite row column columns masking mask strobes) b).memory (512 * row + 4 * (column / 4) + j)) i
      ≡ cond (lets columns j i && allowed b.state masking mask strobes i) (bit b.state.colour i) (bit (slice_index b.memory (512 * row + 4 * (column / 4) + j)) i)
  block_write_bit j i k h =
      let a : ℕ = 512 * row + 4 * (column / 4) + j in
      let old : ℕ = slice_index_or b.memory a 0 in
      let drawn : ℕ → ℕ = λ n. merged old b.state.colour (λ i. lets columns n i && allowed b.state masking mask strobes i) in
      let e : a % 4 ≡ j = omega arith in
      let f : a / 4 ≡ 128 * row + column / 4 = omega arith in
      ap (λ (n : ℕ). bit n i)
      (block_write_at a (omega (arith, block_within (length b.memory) row column block_placed))
      ∙ ap₂ (λ (t : Bool) (n : ℕ). cond t (drawn n) old) (eq-eqb (a / 4) (128 * row + column / 4) f) e)
      ∙ merged_bit old b.state.colour (λ i. lets columns j i && allowed b.state masking mask strobes i) i h

  -- every word outside the block stays
  pub block_write_other : (a : ℕ) → a < length b.memory → a / 4 ≢ 128 * row + column / 4
      → slice_index (step (BlockWrite row column columns masking mask strobes) b).memory a ≡ slice_index b.memory a
  block_write_other a h n =
      block_write_at a h
      ∙ ap (λ (t : Bool). cond t (merged (slice_index b.memory a) b.state.colour (λ i. lets columns (a % 4) i && allowed b.state masking mask strobes i)) (slice_index b.memory a))
      (ne_eqb (a / 4) (128 * row + column / 4) n)

-- ---- a colour load: strobed bytes of the colour register are replaced

pub colour_load_sets : (b : Board) (word strobes : ℕ) → number (LoadColour word strobes) b ≡ 0
    → step (LoadColour word strobes) b ≡ board (with_colour b.state (merged b.state.colour word (covers strobes))) b.memory b.serial
unfolding effect
colour_load_sets b word strobes z = step_acts effect (LoadColour word strobes) b z

-- ---- a mask load: strobed bytes of the mask register are replaced, and it is persistent from now on

pub mask_load_sets : (b : Board) (word strobes : ℕ) → number (LoadMask word strobes) b ≡ 0
    → step (LoadMask word strobes) b ≡ board (with_mask b.state (merged b.state.mask word (covers strobes)) true) b.memory b.serial
unfolding effect
mask_load_sets b word strobes z = step_acts effect (LoadMask word strobes) b z

-- ---- a reset refresh: the mask is no longer persistent, and stays; a partition has 128 places, also where no mask was persistent

pub reset_refresh : (b : Board) → number ResetRefresh b ≡ 0
    → step ResetRefresh b ≡ board (with_stop (with_mask b.state b.state.mask false) Every128) b.memory b.serial
unfolding effect
reset_refresh b z = step_acts effect ResetRefresh b z

pub reset_length : (b : Board) → number ResetRefresh b ≡ 0 → length_of (step ResetRefresh b).state ≡ 128
unfolding length_of
reset_length b z = ap (λ (x : Board). stop_length x.state.stop) (reset_refresh b z)

-- ---- stop points: a partition has so many places; a tap that waits stays

pub stop_points : (b : Board) (length : ℕ) → number (StopPoints length) b ≡ 0
    → step (StopPoints length) b ≡ board (with_stop b.state (stop_of length)) b.memory b.serial
unfolding effect
stop_points b length z = step_acts effect (StopPoints length) b z

pub stop_points_length : (b : Board) (length : ℕ) → number (StopPoints length) b ≡ 0 → length_of (step (StopPoints length) b).state ≡ length
unfolding length_of refusal
stop_points_length b length z =
    ap (λ (x : Board). stop_length x.state.stop) (stop_points b length z)
    ∙ stop_length_of length (stop_zero length (number_zero (StopPoints length) b z).1)

-- ---- the mask in force and the strobes of a write that is masked, with both strobes, while the mask is not persistent

pub allowed_given : (s : Vram) (mask i : ℕ) → s.persistent ≡ false → i < 16 → allowed s 1 mask 3 i ≡ bit mask i
allowed_given s mask i p h = rw (p, covers_both i h)
