-- Laws of fields judged in order, with what they leave behind. Assumes nothing.
use Rattle.std.specs.Prelude.{◌≡◌, refl, Bool, cond, List, [], ◌∷◌, ◌≢◌, ℕ, ◌+◌, eqb}
use Rattle.std.proofs.Common.{sym, ap, ◌∙◌, arith, eq-eqb, ne_eqb, eqb-true}
use Rattle.std.proofs.Math.Path.{ap₂}
use Rattle.std.proofs.Math.Bool.{true, false}
use Rattle.std.proofs.lemmas.Bool.{eqb-false}
use Rattle.list.specs.Meaning.{Bad}
use Rattle.std.specs.Prelude.{Option}
use Rattle.std.specs.Prelude.Option.{None, Some}
use Rattle.list.specs.Fields.{Field, size_of}
use Rattle.list.specs.Open.{open_by, open_after}
use Rattle.list.proofs.OpenLaws.{open_nil, open_next}
use Rattle.list.specs.Meaning.{number_of, made_by, bad, verdict, left_behind, first_bad, judged}
use Rattle.list.proofs.VerdictLaws.{verdict_nil, verdict_good, verdict_bad}

-- ---- of two verdicts the first that refuses

module _ (v later : Bad) where
  pub bad_first : v.number ≢ 0 → first_bad v later ≡ v
  unfolding first_bad
  bad_first h = rw (ne_eqb v.number 0 h)

  pub bad_later : v.number ≡ 0 → first_bad v later ≡ later
  unfolding first_bad
  bad_later h = rw (eq-eqb v.number 0 h)

  -- where nothing is refused, neither refuses
  pub bad_zero : (first_bad v later).number ≡ 0 → (v.number ≡ 0) × (later.number ≡ 0)
  bad_zero h = go (eqb v.number 0) refl
    where
      go : (t : Bool) → eqb v.number 0 ≡ t → (v.number ≡ 0) × (later.number ≡ 0)
      go true q = (eqb-true _ _ q, sym (ap (λ (w : Bad). w.number) (bad_later (eqb-true _ _ q))) ∙ h)
      go false q = let n = eqb-false _ _ q in absurd (n (sym (ap (λ (w : Bad). w.number) (bad_first n)) ∙ h))

  -- a number that neither gives is not given
  pub bad_never : (n : ℕ) → v.number ≢ n → later.number ≢ n → (first_bad v later).number ≢ n
  unfolding first_bad
  bad_never n p q = go (eqb v.number 0)
    where
      go : (t : Bool) → (cond t later v).number ≢ n
      go true = q
      go false = p

-- ---- what is left behind

pub left_none : left_behind None ≡ bad 0 0
unfolding left_behind
left_none = refl

pub left_at : (place : ℕ) → left_behind (Some place) ≡ bad 20 place
unfolding left_behind
left_at place = refl

-- nothing is refused where none is open
pub left_zero : (left : Option ℕ) → (left_behind left).number ≡ 0 → left ≡ None
unfolding left_behind
left_zero None h = refl
left_zero (Some place) h = absurd (omega arith)

-- ---- field by field

module _ (rows : ℕ) (made : Bool) (left : Option ℕ) (at : ℕ) where
  -- a refused field decides, and where there is none what is left behind
  module _ (fs : List Field) where
    pub judged_refused : (verdict rows made at fs).number ≢ 0 → judged rows made left at fs ≡ verdict rows made at fs
    unfolding judged
    judged_refused h = bad_first (verdict rows made at fs) _ h

    pub judged_passed : (verdict rows made at fs).number ≡ 0 → judged rows made left at fs ≡ left_behind (open_after at fs left)
    unfolding judged
    judged_passed h = bad_later (verdict rows made at fs) _ h

  pub judged_nil : judged rows made left at [] ≡ left_behind left
  judged_nil = judged_passed [] (ap (λ (v : Bad). v.number) (verdict_nil rows made at)) ∙ ap left_behind (open_nil at left)

  module _ (f : Field) (fs : List Field) where
    pub judged_good : number_of rows made f ≡ 0 → judged rows made left at (f ∷ fs) ≡ judged rows (made_by f made) (open_by at f left) (at + size_of f) fs
    unfolding judged
    judged_good h = ap₂ (λ (v : Bad) (o : Option ℕ). first_bad v (left_behind o)) (verdict_good rows made at f fs h) (open_next at f fs left)

    pub judged_bad : number_of rows made f ≢ 0 → judged rows made left at (f ∷ fs) ≡ bad (number_of rows made f) at
    judged_bad h =
        let e = verdict_bad rows made at f fs h in
        judged_refused (f ∷ fs) (λ z. h (sym (ap (λ (v : Bad). v.number) e) ∙ z)) ∙ e
