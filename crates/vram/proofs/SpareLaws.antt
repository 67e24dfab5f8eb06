-- Cycles that reach no high byte leave every one: a list that writes results alone leaves every mark. Assumes nothing.
use Rattle.std.specs.Prelude.{◌≡◌, ℕ, ◌-◌, ◌≤◌, Bool, true, false, ◌&&◌, ◌||◌, ◌⊎◌, List, [], ◌∷◌, length, slice_index, refl}
use Rattle.std.proofs.Common.{ap, ◌∙◌, inl, inr, ⊎_elim, eqb-true, ltb-true}
use Rattle.std.proofs.Math.Bool.{and-false}
use Rattle.numbers.specs.Between.{both}
use Rattle.words.specs.Bit.{bit}
use Rattle.words.specs.BitLaws.{bit_above}
use Rattle.words.specs.Word.{covers, lets, high}
use Rattle.words.specs.WordLaws.{low_kept, covers_low}
use Rattle.vram.specs.declared.Vram.{Vram}
use Rattle.vram.specs.declared.Cycle.{Cycle}
use Rattle.vram.specs.declared.Cycle.TheVariants.{WordWrite, BlockWrite, LoadColour, LoadMask, ResetRefresh, FullTransfer, SplitTransfer, StopPoints}
use Rattle.vram.specs.Memory.{Words}
use Rattle.vram.specs.MemoryLaws.{among}
use Rattle.vram.specs.Board.{Board, in_force, allowed, effect}
use Rattle.vram.specs.Writes.{Writes, base, writes, written, written_length, written_at}
use Rattle.vram.proofs.Sets.{effect_writes}
use Rattle.vram.specs.Step.{run_by, step, run}
use Rattle.vram.specs.StepLaws.{step_holds}
use Rattle.vram.proofs.RuleLaws.{step_words}
use Rattle.vram.specs.High.{Agree, below, spares, all_spare}
use Rattle.vram.proofs.HighLaws.{agree_from}

-- no bit of a high byte is let through
abbrev Low : (ℕ → Bool) → Type 0
Low w = (b : ℕ) → 8 ≤ b → w b ≡ false

either_of : (p q : Bool) → (p || q) ≡ true → (p ≡ true) ⊎ (q ≡ true)
either_of true q h = inl refl
either_of false q h = inr h

below_low : (s : Vram) (masking mask strobes : ℕ) → below s masking mask strobes ≡ true → Low (allowed s masking mask strobes)
below_low s masking mask strobes h b l =
    ⊎_elim (λ e. ap (λ (n : ℕ). covers n b && bit (in_force s masking mask) b) (eqb-true strobes _ e) ∙ ap (λ (t : Bool). t && bit (in_force s masking mask) b) (covers_low b l))
    (λ e. ap (λ (t : Bool). covers strobes b && t) (bit_above 8 (in_force s masking mask) b (ltb-true _ _ e) l) ∙ and-false (covers strobes b))
    (either_of _ _ h)

-- of each cycle that spares the high bytes
spares_low : (c : Cycle) (s : Vram) → spares c s ≡ true → (j : ℕ) → Low ((writes c s).through j)
unfolding spares writes
spares_low (WordWrite row column word masking mask strobes) s h j b l = below_low s masking mask strobes h b l
spares_low (BlockWrite row column columns masking mask strobes) s h j b l = rw (below_low s masking mask strobes h b l) (and-false (lets columns j b))
spares_low (LoadColour word strobes) s h j b l = refl
spares_low (LoadMask word strobes) s h j b l = refl
spares_low ResetRefresh s h j b l = refl
spares_low (FullTransfer row half tap) s h j b l = refl
spares_low (SplitTransfer row half tap) s h j b l = refl
spares_low (StopPoints length) s h j b l = refl

written_spares : (w : Writes) (m : List ℕ) → Words m → ((j : ℕ) → Low (w.through j)) → Agree (written w m) m
written_spares w m k h = agree_from (written_length w m)
    (λ a l. ap high (written_at w m a (rw (written_length w m) at l))
    ∙ low_kept (among (base w) w.count a) (slice_index m a) w.pen (w.through (a - base w)) (k a) (h (a - base w)))

-- ---- a cycle, and cycles in order

pub step_spares : (c : Cycle) (b : Board) → Words b.memory → spares c b.state ≡ true → Agree (step c b).memory b.memory
step_spares c b k h =
    step_holds (λ x. Agree x.memory b.memory) effect c b (record { same = refl })
    (λ z. rw (effect_writes c b) (written_spares (writes c b.state) b.memory k (spares_low c b.state h)))

pub spare_none : (b : Board) → all_spare [] b ≡ true
unfolding all_spare
spare_none b = refl

module _ (c : Cycle) (l : List Cycle) (b : Board) where
  pub spare_first : all_spare (c ∷ l) b ≡ true → spares c b.state ≡ true
  unfolding all_spare
  spare_first h = (both (spares c b.state) (all_spare l (step c b)) h).0

  pub spare_others : all_spare (c ∷ l) b ≡ true → all_spare l (step c b) ≡ true
  unfolding all_spare
  spare_others h = (both (spares c b.state) (all_spare l (step c b)) h).1

  pub spare_next : spares c b.state ≡ true → all_spare l (step c b) ≡ true → all_spare (c ∷ l) b ≡ true
  unfolding all_spare
  spare_next f g = rw (f, g)

pub run_spares : (l : List Cycle) (b : Board) → Words b.memory → all_spare l b ≡ true → Agree (run l b).memory b.memory
unfolding run_by
run_spares [] b k h = record { same = refl }
run_spares (c ∷ l) b k h =
    record { same = (run_spares l (step c b) (step_words c b k) (spare_others c l b h)).same ∙ (step_spares c b k (spare_first c l b h)).same }
