-- Laws of bits that some rectangles leave alone. Assumes nothing.
use Rattle.std.specs.Prelude.{ℕ, ◌<◌, ◌≡◌, true, false, length, get_or}
use Rattle.std.proofs.Math.Path.{refl}
use Rattle.std.proofs.Common.{sym, ◌∙◌, subst, List, [], ◌∷◌, ◌++◌}
use Rattle.numbers.specs.Between.{neither}
use Rattle.words.specs.Bit.{bit}
use Rattle.planner.specs.Fill.{Fill}
use Rattle.planner.specs.Paint.{painted}
use Rattle.planner.proofs.PaintLaws.{painted_bit, painted_length}
use Rattle.page.proofs.PagePaints.{painted_all}
use Rattle.page.proofs.Stage.{paints_bit, painted_by}

module _ (a i : ℕ) where
  module _ (f : Fill) (fs : List Fill) (e : painted_by (f ∷ fs) a i ≡ false) where
    pub spared_first : paints_bit f a i ≡ false
    unfolding painted_by
    spared_first = (neither (paints_bit f a i) (painted_by fs a i) e).0

    pub spared_later : painted_by fs a i ≡ false
    unfolding painted_by
    spared_later = (neither (paints_bit f a i) (painted_by fs a i) e).1

  pub spared_left : (fs gs : List Fill) → painted_by (fs ++ gs) a i ≡ false → painted_by fs a i ≡ false
  unfolding painted_by
  spared_left [] gs e = refl
  spared_left (f ∷ fs) gs e =
      let n = neither (paints_bit f a i) (painted_by (fs ++ gs) a i) e in
      rw n.0 (spared_left fs gs n.1)

  pub spared_right : (fs gs : List Fill) → painted_by (fs ++ gs) a i ≡ false → painted_by gs a i ≡ false
  unfolding painted_by
  spared_right [] gs e = e
  spared_right (f ∷ fs) gs e = spared_right fs gs (neither (paints_bit f a i) (painted_by (fs ++ gs) a i) e).1

  -- a rectangle that paints_bit the bit makes it its colour's, and one that does not leaves it
  module _ (f : Fill) (m : List ℕ) (h : a < length m) (l : i < 16) where
    pub painted_covered : paints_bit f a i ≡ true → bit (get_or (painted f m) a 0) i ≡ bit f.colour i
    painted_covered e = painted_bit f m a i h l ∙ rw e

    pub painted_spared : paints_bit f a i ≡ false → bit (get_or (painted f m) a 0) i ≡ bit (get_or m a 0) i
    painted_spared e = painted_bit f m a i h l ∙ rw e

  pub all_spared : (fs : List Fill) (m : List ℕ) → a < length m → i < 16 → painted_by fs a i ≡ false
      → bit (get_or (painted_all fs m) a 0) i ≡ bit (get_or m a 0) i
  unfolding painted_all
  all_spared [] m h l e = refl
  all_spared (f ∷ fs) m h l e =
      all_spared fs (painted f m) (subst (λ (n : ℕ). a < n) (sym (painted_length f m)) h) l (spared_later f fs e)
      ∙ painted_spared f m h l (spared_first f fs e)

pub all_length : (fs : List Fill) (m : List ℕ) → length (painted_all fs m) ≡ length m
unfolding painted_all
all_length [] m = refl
all_length (f ∷ fs) m = all_length fs (painted f m) ∙ painted_length f m

pub all_append : (fs gs : List Fill) (m : List ℕ) → painted_all (fs ++ gs) m ≡ painted_all gs (painted_all fs m)
unfolding painted_all
all_append [] gs m = refl
all_append (f ∷ fs) gs m = all_append fs gs (painted f m)
