-- Laws of what an accepted fill answers and of the list that it writes. Assumes nothing.
use Rattle.std.specs.Prelude.{ℕ, zero, suc, ◌+◌, ◌*◌, ◌/◌, ◌%◌, ◌<◌, ◌≡◌, refl, Bool, true, false, cond, eqb, leb, length, take}
use Rattle.std.proofs.Common.{sym, ap, ap₂, ◌∙◌, arith, List, [], ◌∷◌, map}
use Rattle.std.proofs.Math.Path.{subst}
use mathlib.Core.List.Memᴰ
use mathlib.Core.List.{Memᴰ}
use Rattle.std.proofs.Math.Logic.{⊎_elim}
use Rattle.numbers.specs.Refuse.{refuse}
use Rattle.numbers.specs.RefuseLaws.{first_of_zero, leaves_made}
use Rattle.numbers.specs.Buffer.{over}
use Rattle.numbers.specs.BufferLaws.{take_over}
use Rattle.vram.specs.declared.Cycle.{Cycle}
use Rattle.vram.specs.declared.Cycle.TheVariants.{LoadColour}
use Rattle.vram.specs.Refusal.{refusal}
use Rattle.vram.specs.Kinds.{tag_of}
use Rattle.vram.proofs.CaseLaws.{word_accepted, block_accepted, colour_accepted, tag_word, tag_block, tag_colour}
use Rattle.planner.specs.Fill.{Fill, inside, touched, picked, W, B, word_write, columns_of, block_write, by_words, by_blocks, plan}
use Rattle.planner.specs.Calls.{asked_refusal, room_ok, fill_refusal, list_of, fill_call}
use Rattle.planner.proofs.CallLaws.{asked_first}
use Rattle.planner.specs.Paint.{list_in}

-- ---- an accepted fill

module _ (f : Fill) (out : List ℕ) (z : (fill_call f out).answer.number ≡ 0) where
  pub accepted_asked : asked_refusal f ≡ 0
  unfolding fill_call
  accepted_asked = (first_of_zero (asked_refusal f) (refuse (room_ok f (length out)) 15 0) (sym (asked_first f (length out)) ∙ z)).0

  -- it answers the list's length and its number of cycles
  pub accepted_bytes : (fill_call f out).answer.bytes ≡ length (list_of f)
  unfolding fill_call
  accepted_bytes = leaves_made (fill_refusal f (length out)) 0 (length (list_of f)) z

  pub accepted_cycles : (fill_call f out).answer.cycles ≡ length (plan f)
  unfolding fill_call
  accepted_cycles = leaves_made (fill_refusal f (length out)) 0 (length (plan f)) z

  accepted_buffer : (fill_call f out).buffer ≡ over (list_of f) out
  unfolding fill_call
  accepted_buffer = leaves_made (fill_refusal f (length out)) out (over (list_of f) out) z

  -- and the bytes written are the list
  pub accepted_list : list_in (fill_call f out) ≡ list_of f
  accepted_list = ap₂ (λ (n : ℕ) (t : List ℕ). take n t) accepted_bytes accepted_buffer ∙ take_over (list_of f) out

-- ---- the cycles of the plan: word writes, or a colour load and block writes

picked_says : (p : ℕ → Bool) (n at x : ℕ) → Memᴰ x (picked p at n) → (p x ≡ true) × (x < at + n)
unfolding picked
picked_says p zero at x m = absurd (Memᴰ.not-nil m)
picked_says p (suc n) at x m = go (p at) refl m (picked_says p n (suc at) x)
  where
    go : (t : Bool) → p at ≡ t → Memᴰ x (cond t (at ∷ picked p (suc at) n) (picked p (suc at) n))
        → (Memᴰ x (picked p (suc at) n) → (p x ≡ true) × (x < suc at + n)) → (p x ≡ true) × (x < at + suc n)
    go true e m ih =
        ⊎_elim (λ q. (ap p q ∙ e, omega arith)) (λ k. let r = ih k in (r.0, omega (arith, r.1))) (Memᴰ.cases_cons m)
    go false e m ih = let r = ih m in (r.0, omega (arith, r.1))

-- what holds of each of these holds of every cycle of the plan
module _ (f : Fill) (P : Cycle → Type 0) (word : (x : ℕ) → x < 512 * f.rows → P (word_write f x)) (load : P (LoadColour f.colour 3))
    (block : (x : ℕ) → x < 128 * f.rows → P (block_write f x)) where
  picked_hold : (g : ℕ → Cycle) (p : ℕ → Bool) (n : ℕ) → ((x : ℕ) → x < n → P (g x)) → (c : Cycle) → Memᴰ c (map g (picked p 0 n)) → P c
  picked_hold g p n holds c m =
      let o = Memᴰ.of_map g (picked p 0 n) m in
      subst P o.2 (holds o.0 (omega (arith, (picked_says p n 0 o.0 o.1).1)))

  pub plan_holds : (c : Cycle) → Memᴰ c (plan f) → P c
  unfolding plan
  plan_holds c = go (eqb f.mask 0) (leb (W f) (1 + B f))
    where
      blocks : Memᴰ c (by_blocks f) → P c
      blocks m =
          ⊎_elim (λ (e : c ≡ LoadColour f.colour 3). subst P (sym e) load) (picked_hold (block_write f) (touched f) (128 * f.rows) block c)
          (Memᴰ.cases_cons m)

      go : (t u : Bool) → Memᴰ c (cond t [] (cond u (by_words f) (by_blocks f))) → P c
      go true u m = absurd (Memᴰ.not-nil m)
      go false true m = picked_hold (word_write f) (inside f) (512 * f.rows) word c m
      go false false m = blocks m

module _ (f : Fill) where
  -- none of them is refused
  pub plan_accepted : (c : Cycle) → Memᴰ c (plan f) → (made : Bool) → refusal f.rows made c ≡ 0
  plan_accepted c m made =
      plan_holds f (λ d. refusal f.rows made d ≡ 0)
      (λ x h. word_accepted f.rows made (x / 512) (x % 512) f.colour f.mask (omega arith) (omega arith))
      (colour_accepted f.rows made f.colour)
      (λ x h. block_accepted f.rows made (x / 128) (4 * (x % 128)) (columns_of f x) f.mask (omega arith) (omega arith))
      c m

  -- none loads a mask, resets, transfers or sets stop points
  pub plan_tags : (c : Cycle) → Memᴰ c (plan f) → tag_of c < 4
  plan_tags =
      plan_holds f (λ d. tag_of d < 4)
      (λ x h. omega (arith, tag_word (x / 512) (x % 512) f.colour 1 f.mask 3))
      (omega (arith, tag_colour f.colour 3))
      (λ x h. omega (arith, tag_block (x / 128) (4 * (x % 128)) (columns_of f x) 1 f.mask 3))
