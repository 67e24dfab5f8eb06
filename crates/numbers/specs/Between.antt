-- Ranges, as a test and as what it says. Assumes nothing.
use Rattle.std.specs.Prelude.{ℕ, ◌≤◌, ◌<◌, ◌≡◌, refl, Bool, true, false, ◌&&◌, ◌||◌, leb, ltb}
use Rattle.std.proofs.Common.{sym, true≢false, leb-true, ltb-true, le-leb, lt-ltb}

-- x from lo up to hi, hi not included
abbrev pub between : ℕ → ℕ → ℕ → Bool
between lo hi x = leb lo x && ltb x hi

pub both : (p q : Bool) → (p && q) ≡ true → (p ≡ true) × (q ≡ true)
both true q e = (refl, e)
both false q e = absurd (true≢false (sym e))

pub neither : (p q : Bool) → (p || q) ≡ false → (p ≡ false) × (q ≡ false)
neither true q e = absurd (true≢false e)
neither false q e = (refl, e)

-- one of two tests holds: what follows from each
pub either : (P : Type 0) (p q : Bool) → (p || q) ≡ true → (p ≡ true → P) → (q ≡ true → P) → P
either P true q e f g = f refl
either P false q e f g = g e

-- two tests that say the same are equal
pub same_truth : (p q : Bool) → (p ≡ true → q ≡ true) → (q ≡ true → p ≡ true) → p ≡ q
same_truth true q f g = sym (f refl)
same_truth false true f g = g refl
same_truth false false f g = refl

module _ (lo hi x : ℕ) where
  pub between_in : lo ≤ x → x < hi → between lo hi x ≡ true
  between_in h l = rw (le-leb lo x h, lt-ltb x hi l)

  pub between_says : between lo hi x ≡ true → (lo ≤ x) × (x < hi)
  between_says e = let b = both (leb lo x) (ltb x hi) e in (leb-true lo x b.0, ltb-true x hi b.1)

  pub between_out : ((lo ≤ x) × (x < hi) → ⊥) → between lo hi x ≡ false
  between_out h = go (between lo hi x) refl
    where
      go : (t : Bool) → between lo hi x ≡ t → t ≡ false
      go true e = absurd (h (between_says e))
      go false e = refl
