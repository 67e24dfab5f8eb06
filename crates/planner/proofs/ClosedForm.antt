-- W, B and the count in closed form, for every fill that is not refused. Assumes nothing.
use Rattle.std.specs.Prelude.{ℕ, ◌+◌, ◌-◌, ◌*◌, min, ◌≡◌, refl, Bool, true, false, cond, List, eqb, length}
use Rattle.std.proofs.Common.{sym, ap, ap₂, ◌∙◌, arith, mul-zero, eqb-true}
use Rattle.std.proofs.lemmas.Bool.{eqb-false}
use Rattle.planner.specs.Fill.{Fill, touched, W, B, plan}
use Rattle.planner.proofs.FillLaws.{Sound, across, inside_says, touched_says, words_closed, blocks_closed, plan_nothing, plan_length}
use Rattle.planner.proofs.SeriesLaws.{picked_none}
use Rattle.planner.specs.Calls.{fill_call}
use Rattle.planner.proofs.CallLaws.{asked_sound}
use Rattle.planner.proofs.AcceptedLaws.{accepted_asked, accepted_cycles}

abbrev pub height : Fill → ℕ
height f = f.end_row - f.first_row

abbrev pub width : Fill → ℕ
width f = f.end_column - f.first_column

pub record Closed (f : Fill) (cycles : ℕ) : Type 0 where
  pub words : W f ≡ height f * width f
  pub blocks : B f ≡ height f * cond (eqb (width f) 0) 0 (across f)
  pub count : cycles ≡ cond (eqb f.mask 0) 0 (min (height f * width f) (1 + height f * across f))

module _ (f : Fill) (s : Sound f) where
  -- no columns, no blocks
  none_touched : width f ≡ 0 → (k : ℕ) → touched f k ≡ false
  none_touched e k = go (touched f k) refl
    where
      go : (t : Bool) → touched f k ≡ t → t ≡ false
      go true q =
          let t = touched_says f k q in
          let i = inside_says f t.0 t.2 in
          absurd (omega (arith, e, i.column_from, i.column_to))
      go false q = refl

  blocks_all : B f ≡ height f * cond (eqb (width f) 0) 0 (across f)
  blocks_all = go (eqb (width f) 0) refl
    where
      go : (t : Bool) → eqb (width f) 0 ≡ t → B f ≡ height f * cond t 0 (across f)
      go true e =
          ap length (picked_none (touched f) (128 * f.rows) 0 (λ k l u. none_touched (eqb-true (width f) 0 e) k)) ∙ sym (mul-zero (height f))
      go false e = let n = eqb-false (width f) 0 e in blocks_closed f s (omega arith)

  count_all : length (plan f) ≡ cond (eqb f.mask 0) 0 (min (height f * width f) (1 + height f * across f))
  count_all = go (eqb f.mask 0) refl
    where
      -- where there are no columns both are 0
      same : (t : Bool) → eqb (width f) 0 ≡ t → min (height f * width f) (1 + height f * cond t 0 (across f)) ≡ min (height f * width f) (1 + height f * across f)
      same true e =
          let z : height f * width f ≡ 0 = ap (λ (n : ℕ). height f * n) (eqb-true (width f) 0 e) ∙ mul-zero (height f) in
          ap (λ (n : ℕ). min n (1 + height f * 0)) z ∙ omega arith
      same false e = refl

      go : (t : Bool) → eqb f.mask 0 ≡ t → length (plan f) ≡ cond t 0 (min (height f * width f) (1 + height f * across f))
      go true e = ap length (plan_nothing f (eqb-true f.mask 0 e))
      go false e =
          plan_length f (eqb-false f.mask 0 e)
          ∙ ap₂ (λ (w b : ℕ). min w (1 + b)) (words_closed f s) blocks_all
          ∙ same (eqb (width f) 0) refl

pub closed_form : (f : Fill) (out : List ℕ) → (fill_call f out).answer.number ≡ 0 → Closed f (fill_call f out).answer.cycles
closed_form f out z =
    let s = asked_sound f (accepted_asked f out z) in
    record { words = words_closed f s; blocks = blocks_all f s; count = accepted_cycles f out z ∙ count_all f s }
