-- Laws of numbers given back. Assumes nothing.
use Rattle.std.specs.Prelude.{◌≡◌, refl, Bool, true, false, cond, ◌≢◌, ℕ, suc, eqb}
use Rattle.std.proofs.Common.{sym, ap₂, ◌∙◌, arith, eqb-true, eq-eqb, ne_eqb}
use Rattle.std.proofs.lemmas.Bool.{eqb-false}
use Rattle.numbers.specs.Refuse.{refuse, first_of, leaves}

-- where nothing is refused every test holds
pub refuse_zero : (holds : Bool) (number later : ℕ) → refuse holds (suc number) later ≡ 0 → (holds ≡ true) × (later ≡ 0)
refuse_zero true number later e = (refl, e)
refuse_zero false number later e = absurd (omega arith)

pub first_of_zero : (number later : ℕ) → first_of number later ≡ 0 → (number ≡ 0) × (later ≡ 0)
first_of_zero number later e = go (eqb number 0) refl e
  where
    go : (t : Bool) → eqb number 0 ≡ t → cond t later number ≡ 0 → (number ≡ 0) × (later ≡ 0)
    go true q e = (eqb-true number 0 q, e)
    go false q e = absurd (eqb-false number 0 q e)

-- nothing refused before: what comes later decides
pub first_of_later : (number later : ℕ) → number ≡ 0 → first_of number later ≡ later
first_of_later number later e = simp (eq-eqb number 0 e)

-- something refused before: it is given
pub first_of_first : (number later : ℕ) → number ≢ 0 → first_of number later ≡ number
first_of_first number later n = simp (ne_eqb number 0 n)

-- a number that is asked for a second test is the first of two
pub first_of_is : (number later : ℕ) → refuse (eqb number 0) number later ≡ first_of number later
first_of_is number later = go (eqb number 0)
  where
    go : (t : Bool) → refuse t number later ≡ cond t later number
    go true = refl
    go false = refl

module _ {A : Type 0} (number : ℕ) (before made : A) where
  pub leaves_made : number ≡ 0 → leaves number before made ≡ made
  leaves_made e = simp (eq-eqb number 0 e)

  -- a refusal changes nothing
  pub leaves_before : number ≢ 0 → leaves number before made ≡ before
  leaves_before n = simp (ne_eqb number 0 n)

-- what holds of what was there, and of what is made, holds of what a call leaves
pub leaves_holds : {A : Type 0} (P : A → Type 0) (number : ℕ) (before made : A) → P before → P made → P (leaves number before made)
leaves_holds P number before made p q = go (eqb number 0)
  where
    go : (t : Bool) → P (cond t made before)
    go true = q
    go false = p

-- ---- the two ways out of a call that refuses or acts: n is the number that the code has, k the definition's, and `out` puts the
-- answer together

module _ {A B : Type 0} (out : ℕ → A → B) (n k : ℕ) (before made : A) where
  pub refused_is : n ≡ k → n ≢ 0 → out n before ≡ out k (leaves k before made)
  refused_is e h = ap₂ out e (sym (leaves_before k before made (λ z. h (e ∙ z))))

  pub done_is : (left : A) → n ≡ k → n ≡ 0 → left ≡ made → out 0 left ≡ out k (leaves k before made)
  done_is left e z f = ap₂ out (sym z ∙ e) (f ∙ sym (leaves_made k before made (sym e ∙ z)))
