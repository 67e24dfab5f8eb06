-- What a transfer leaves, word by word and register by register. Assumes nothing.
use Rattle.std.specs.Prelude.{◌≡◌, ℕ, ◌+◌, ◌-◌, ◌*◌, ◌/◌, ◌<◌, ◌≤◌, Bool, true, false, ◌≢◌, ◌⊎◌, length, nat_lt, slice_index, refl}
use Rattle.std.proofs.Math.Path.{ap}
use Rattle.std.proofs.Common.{◌∙◌, inl, inr, ltb-true, ltb-false, arith}
use Rattle.vram.specs.declared.Waiting.TheVariants.{None, Tap}
use Rattle.vram.specs.declared.Cycle.{Cycle}
use Rattle.vram.specs.declared.Cycle.TheVariants.{FullTransfer, SplitTransfer}
use Rattle.vram.specs.State.{with_serial, half_of, other}
use Rattle.vram.specs.Memory.{copied}
use Rattle.vram.specs.MemoryLaws.{copied_in, copied_out}
use Rattle.vram.specs.Board.{Board, board, effect}
use Rattle.vram.specs.RefusalLaws.{given_zero}
use Rattle.vram.specs.Step.{number, step}
use Rattle.vram.specs.StepLaws.{number_zero, step_acts}
use Rattle.vram.proofs.Sets.{sets}
use Rattle.vram.proofs.KeptLaws.{kept}

-- what a cycle that is not refused copies lies in the memory and in the serial register
within : (c : Cycle) (b : Board) → number c b ≡ 0
    → ((sets c b.state).from + (sets c b.state).count ≤ length b.memory) × ((sets c b.state).to + (sets c b.state).count ≤ length b.serial)
within c b z =
    let n = number_zero c b z in
    let k = (kept c b.state).copy (length b.memory) n.1 in
    let g = given_zero b.state (length b.memory) (length b.serial) n.0 in
    (k.0, omega (arith, k.1, g.register))

-- ---- a full transfer

module _ (b : Board) (row half tap : ℕ) (z : number (FullTransfer row half tap) b ≡ 0) where
  -- a full transfer has been made, the pointer stands at the tap, and no tap waits
  pub full_transfer : step (FullTransfer row half tap) b
      ≡ board (with_serial b.state true tap None) b.memory (copied b.memory (512 * row + 256 * half) b.serial 0 256)
  unfolding effect
  full_transfer = step_acts effect (FullTransfer row half tap) b z

  -- serial word i is the memory's word i of the half row
  pub full_transfer_word : (i : ℕ) → i < 256 → slice_index (step (FullTransfer row half tap) b).serial i ≡ slice_index b.memory (512 * row + 256 * half + i)
  unfolding sets
  full_transfer_word i h =
      let w = within (FullTransfer row half tap) b z in
      let e : i ≡ 0 + i = omega arith in
      ap (λ (x : Board). slice_index x.serial i) full_transfer
      ∙ ap (λ (x : ℕ). slice_index (copied b.memory (512 * row + 256 * half) b.serial 0 256) x) e
      ∙ copied_in b.memory (512 * row + 256 * half) b.serial 0 256 w.0 w.1 i h

-- ---- a split transfer

-- a place outside half h lies before it or after it
outside : (h i : ℕ) → half_of i ≢ h → (i < 128 * h) ⊎ (128 * h + 128 ≤ i)
outside h i n = go (nat_lt (half_of i) h) refl
  where
    go : (t : Bool) → nat_lt (half_of i) h ≡ t → (i < 128 * h) ⊎ (128 * h + 128 ≤ i)
    go true q = let k : i / 128 < h = ltb-true (half_of i) h q in inl (omega arith)
    go false q = let k : h ≤ i / 128 = ltb-false (half_of i) h q in inr (omega (arith, n))

module _ (b : Board) (row half tap : ℕ) (z : number (SplitTransfer row half tap) b ≡ 0) where
  abbrev h : ℕ
  h = other b.state.pointer

  -- the tap waits in the half without the pointer; the pointer stays
  pub split_transfer : step (SplitTransfer row half tap) b
      ≡ board (with_serial b.state b.state.loaded b.state.pointer (Tap (128 * h + tap))) b.memory
      (copied b.memory (512 * row + 256 * half + 128 * h) b.serial (128 * h) 128)
  unfolding effect
  split_transfer = step_acts effect (SplitTransfer row half tap) b z

  -- serial word i of the half without the pointer is the memory's word i of the half row
  pub split_transfer_word : (i : ℕ) → half_of i ≡ h
      → slice_index (step (SplitTransfer row half tap) b).serial i ≡ slice_index b.memory (512 * row + 256 * half + i)
  unfolding sets
  split_transfer_word i k =
      let w = within (SplitTransfer row half tap) b z in
      let e : i ≡ 128 * h + (i - 128 * h) = omega arith in
      let f : 512 * row + 256 * half + 128 * h + (i - 128 * h) ≡ 512 * row + 256 * half + i = omega arith in
      ap (λ (x : Board). slice_index x.serial i) split_transfer
      ∙ ap (λ (x : ℕ). slice_index (copied b.memory (512 * row + 256 * half + 128 * h) b.serial (128 * h) 128) x) e
      ∙ copied_in b.memory (512 * row + 256 * half + 128 * h) b.serial (128 * h) 128 w.0 w.1 (i - 128 * h) (omega arith)
      ∙ ap (λ (x : ℕ). slice_index b.memory x) f

  -- every place of the other half stays
  pub split_transfer_other : (i : ℕ) → half_of i ≢ h → slice_index (step (SplitTransfer row half tap) b).serial i ≡ slice_index b.serial i
  unfolding sets
  split_transfer_other i n =
      let w = within (SplitTransfer row half tap) b z in
      ap (λ (x : Board). slice_index x.serial i) split_transfer
      ∙ copied_out b.memory (512 * row + 256 * half + 128 * h) b.serial (128 * h) 128 w.0 w.1 i (outside h i n)
