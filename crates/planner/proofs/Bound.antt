-- No list turns a wrong bit right in every word of the rectangle with fewer cycles than the smaller of W and 1 + B. Nothing is asked
-- of the cycles: of what a cycle does, only what it aims at counts. Assumes nothing.
use Rattle.std.specs.Prelude.{ℕ, zero, suc, ◌+◌, ◌*◌, ◌/◌, ◌≤◌, ◌<◌, min, ◌≡◌, refl, Bool, true, ◌≢◌, length, get_or}
use Rattle.std.proofs.Common.{zero-le, sym, ap, ◌∙◌, subst, ⊎_elim, arith, le_trans, length-append, List, [], ◌∷◌, ◌++◌}
use mathlib.Core.List.Memᴰ
use mathlib.Core.List.{Memᴰ}
use Rattle.words.specs.Bit.{bit}
use Rattle.vram.specs.declared.Cycle.{Cycle}
use Rattle.vram.specs.Board.{Board}
use Rattle.vram.specs.Step.{step, run}
use Rattle.vram.proofs.CaseLaws.{run_none, run_next}
use Rattle.vram.proofs.RuleLaws.{step_sized}
use Rattle.vram.specs.Aims.{words_of, blocks_of, colours_of}
use Rattle.vram.proofs.AimLaws.{words_one, blocks_one, Wrong, miss_word, miss_block}
use Rattle.planner.specs.Fill.{Fill, inside, touched, W, B}
use Rattle.planner.proofs.FillLaws.{touched_says}
use Rattle.planner.proofs.Pigeon.{pigeons}

-- ---- what a list's cycles aim at

abbrev all_of : (Cycle → List ℕ) → List Cycle → List ℕ
all_of g [] = []
all_of g (c ∷ l) = g c ++ all_of g l

abbrev loads : List Cycle → ℕ
loads [] = 0
loads (c ∷ l) = colours_of c + loads l

words_most : (l : List Cycle) → length (all_of words_of l) ≤ length l
words_most [] = zero-le
words_most (c ∷ l) = omega (arith, words_one c, words_most l, length-append (words_of c) (all_of words_of l))

blocks_most : (l : List Cycle) → length (all_of blocks_of l) + loads l ≤ length l
blocks_most [] = zero-le
blocks_most (c ∷ l) = omega (arith, blocks_one c, blocks_most l, length-append (blocks_of c) (all_of blocks_of l))

-- ---- bit i of word a is u before and not after

module _ (a i : ℕ) (u v : Bool) (fits : i < 16) (apart : u ≢ v) where
  kept_length : (c : Cycle) (b : Board) → a < length b.memory → a < length (step c b).memory
  kept_length c b h = subst (λ (n : ℕ). a < n) (sym (step_sized c b).memory) h

  unchanged : (b : Board) → bit (get_or b.memory a 0) i ≡ u → bit (get_or (run [] b).memory a 0) i ≡ v → ⊥
  unchanged b h e = apart (sym h ∙ sym (ap (λ (x : Board). bit (get_or x.memory a 0) i) (run_none step b)) ∙ e)

  next : (c : Cycle) (l : List Cycle) (b : Board) → bit (get_or (run (c ∷ l) b).memory a 0) i ≡ v → bit (get_or (run l (step c b)).memory a 0) i ≡ v
  next c l b e = sym (ap (λ (x : Board). bit (get_or x.memory a 0) i) (run_next step c l b)) ∙ e

  -- a write is aimed at its block
  need_block : (l : List Cycle) (b : Board) → a < length b.memory → bit (get_or b.memory a 0) i ≡ u → bit (get_or (run l b).memory a 0) i ≡ v
      → Memᴰ (a / 4) (all_of blocks_of l)
  need_block [] b h w e = absurd (unchanged b w e)
  need_block (c ∷ l) b h w e =
      ⊎_elim (λ x. Memᴰ.append_left (all_of blocks_of l) x)
      (λ k. Memᴰ.append_right (blocks_of c) (need_block l (step c b) (kept_length c b h) k (next c l b e)))
      (miss_block a i u fits c b h w)

  -- with no colour load, and the colour register's bit wrong too, a word write is aimed at it
  need_word : (l : List Cycle) (b : Board) → a < length b.memory → loads l ≡ 0 → Wrong a i u fits b → bit (get_or (run l b).memory a 0) i ≡ v
      → Memᴰ a (all_of words_of l)
  need_word [] b h n w e = absurd (unchanged b w.drawn_bit e)
  need_word (c ∷ l) b h n w e =
      ⊎_elim (λ x. Memᴰ.append_left (all_of words_of l) x)
      (λ k. Memᴰ.append_right (words_of c) (need_word l (step c b) (kept_length c b h) (omega arith) k (next c l b e)))
      (miss_word a i u fits c b h (omega arith) w)

-- ---- the bound, from one board on which bit i is wrong in every word of the rectangle and in the colour register

module _ (f : Fill) (i : ℕ) (u v : Bool) (fits : i < 16) (apart : u ≢ v) (l : List Cycle) (b : Board)
    (within : (a : ℕ) → inside f a ≡ true → a < length b.memory)
    (wrong : (a : ℕ) → inside f a ≡ true → bit (get_or b.memory a 0) i ≡ u)
    (colour : bit b.state.colour i ≡ u)
    (right : (a : ℕ) → inside f a ≡ true → bit (get_or (run l b).memory a 0) i ≡ v) where
  by_words_bound : loads l ≡ 0 → W f ≤ length l
  by_words_bound n =
      le_trans
      (pigeons (inside f) (512 * f.rows) 0 (all_of words_of l)
      (λ a p q h. need_word a i u v fits apart l b (within a h) n (record { drawn_bit = wrong a h; colour_bit = colour }) (right a h)))
      (words_most l)

  by_blocks_bound : B f + loads l ≤ length l
  by_blocks_bound =
      let g = pigeons (touched f) (128 * f.rows) 0 (all_of blocks_of l)
      (λ k p q h.
      let t = touched_says f k h in
      subst (λ (x : ℕ). Memᴰ x (all_of blocks_of l)) t.1 (need_block t.0 i u v fits apart l b (within t.0 t.2) (wrong t.0 t.2) (right t.0 t.2)))
      in omega (arith, g, blocks_most l)

  pub bound : min (W f) (1 + B f) ≤ length l
  bound = go (loads l) refl
    where
      go : (n : ℕ) → loads l ≡ n → min (W f) (1 + B f) ≤ length l
      go zero e = let h = by_words_bound e in omega arith
      go (suc n) e = let h = by_blocks_bound in omega arith
