-- Laws of what is drawn into a memory. Assumes nothing.
use Rattle.std.specs.Prelude.{ℕ, zero, suc, ◌+◌, ◌≤◌, ◌<◌, ◌≡◌, refl, Bool, true, false, ◌&&◌, ◌||◌, cond, List, [], ◌∷◌, length, get_or}
use Rattle.std.proofs.Common.{sym, ap, ap₂, ◌∙◌, subst, arith}
use Rattle.std.proofs.Math.Decide.{dec_le}
use Rattle.std.proofs.Math.ListN.{get_or-eq_default}
use Rattle.words.specs.Bit.{bit}
use Rattle.words.specs.Word.{merged}
use Rattle.words.specs.WordLaws.{merged_lt, merged_bit, merged_again}
use Rattle.planner.specs.Fill.{Fill, inside}
use Rattle.planner.specs.Paint.{mapped_at, painted, Memory}

-- ---- each word by its number

pub map_at_length : (g : ℕ → ℕ → ℕ) (m : List ℕ) (at : ℕ) → length (mapped_at g at m) ≡ length m
unfolding mapped_at
map_at_length g [] at = refl
map_at_length g (w ∷ m) at = ap suc (map_at_length g m (suc at))

map_at_from : (g : ℕ → ℕ → ℕ) (m : List ℕ) (at i : ℕ) → i < length m → get_or (mapped_at g at m) i 0 ≡ g (at + i) (get_or m i 0)
unfolding mapped_at
map_at_from g [] at i h = absurd (omega arith)
map_at_from g (w ∷ m) at zero h = ap (λ (x : ℕ). g x w) (omega arith)
map_at_from g (w ∷ m) at (suc i) h =
    let e : suc at + i ≡ at + suc i = omega arith in
    map_at_from g m (suc at) i (omega arith) ∙ ap (λ (x : ℕ). g x (get_or m i 0)) e

pub map_at_at : (g : ℕ → ℕ → ℕ) (m : List ℕ) (a : ℕ) → a < length m → get_or (mapped_at g 0 m) a 0 ≡ g a (get_or m a 0)
map_at_at g m a h = let e : 0 + a ≡ a = omega arith in map_at_from g m 0 a h ∙ ap (λ (x : ℕ). g x (get_or m a 0)) e

map_at_cong : (g h : ℕ → ℕ → ℕ) → ((a w : ℕ) → g a w ≡ h a w) → (m : List ℕ) (at : ℕ) → mapped_at g at m ≡ mapped_at h at m
unfolding mapped_at
map_at_cong g h e [] at = refl
map_at_cong g h e (w ∷ m) at = ap₂ (λ (x : ℕ) (l : List ℕ). x ∷ l) (e at w) (map_at_cong g h e m (suc at))

map_at_twice : (g h : ℕ → ℕ → ℕ) (m : List ℕ) (at : ℕ) → mapped_at h at (mapped_at g at m) ≡ mapped_at (λ a w. h a (g a w)) at m
unfolding mapped_at
map_at_twice g h [] at = refl
map_at_twice g h (w ∷ m) at = ap (λ (l : List ℕ). h at (g at w) ∷ l) (map_at_twice g h m (suc at))

map_at_same : (g : ℕ → ℕ → ℕ) → ((a w : ℕ) → g a w ≡ w) → (m : List ℕ) (at : ℕ) → mapped_at g at m ≡ m
unfolding mapped_at
map_at_same g e [] at = refl
map_at_same g e (w ∷ m) at = ap₂ (λ (x : ℕ) (l : List ℕ). x ∷ l) (e at w) (map_at_same g e m (suc at))

-- ---- the words that pass a test, drawn with the fill's colour through its mask

module _ (f : Fill) where
  abbrev pub inked : ℕ → ℕ
  inked w = merged w f.colour (bit f.mask)

  abbrev pub drawn : (ℕ → Bool) → List ℕ → List ℕ
  drawn p m = mapped_at (λ a w. cond (p a) (inked w) w) 0 m

  pub drawn_at : (p : ℕ → Bool) (m : List ℕ) (a : ℕ) → a < length m → get_or (drawn p m) a 0 ≡ cond (p a) (inked (get_or m a 0)) (get_or m a 0)
  drawn_at p m a h = map_at_at (λ a w. cond (p a) (inked w) w) m a h

  pub drawn_cong : (p q : ℕ → Bool) → ((a : ℕ) → p a ≡ q a) → (m : List ℕ) → drawn p m ≡ drawn q m
  drawn_cong p q e m =
      map_at_cong (λ a w. cond (p a) (inked w) w) (λ a w. cond (q a) (inked w) w) (λ a w. ap (λ (t : Bool). cond t (inked w) w) (e a)) m 0

  pub drawn_none : (p : ℕ → Bool) → ((a : ℕ) → p a ≡ false) → (m : List ℕ) → drawn p m ≡ m
  drawn_none p e m = map_at_same (λ a w. cond (p a) (inked w) w) (λ a w. ap (λ (t : Bool). cond t (inked w) w) (e a)) m 0

  -- some words and then some
  pub drawn_twice : (p q : ℕ → Bool) (m : List ℕ) → drawn q (drawn p m) ≡ drawn (λ a. p a || q a) m
  drawn_twice p q m =
      map_at_twice (λ a w. cond (p a) (inked w) w) (λ a w. cond (q a) (inked w) w) m 0
      ∙ map_at_cong (λ a w. cond (q a) (inked (cond (p a) (inked w) w)) (cond (p a) (inked w) w)) (λ a w. cond (p a || q a) (inked w) w) (λ a w. go (p a) (q a) w) m 0
    where
      go : (t u : Bool) (w : ℕ) → cond u (inked (cond t (inked w) w)) (cond t (inked w) w) ≡ cond (t || u) (inked w) w
      go true true w = merged_again w f.colour (bit f.mask)
      go true false w = refl
      go false u w = refl

  pub drawn_memory : (rows : ℕ) (p : ℕ → Bool) (m : List ℕ) → Memory rows m → Memory rows (drawn p m)
  drawn_memory rows p m k =
      record {
        size = map_at_length (λ a w. cond (p a) (inked w) w) m 0 ∙ k.size;
        words = λ a. elim (dec_le (suc a) (length m)) [ yes h ↦ within a h | no h ↦ past a (omega arith) ];
      }
    where
      either : (t : Bool) (w : ℕ) → w < 65536 → cond t (inked w) w < 65536
      either true w h = merged_lt w f.colour (bit f.mask)
      either false w h = h

      within : (a : ℕ) → a < length m → get_or (drawn p m) a 0 < 65536
      within a h = subst (λ (n : ℕ). n < 65536) (sym (drawn_at p m a h)) (either (p a) (get_or m a 0) (k.words a))

      past : (a : ℕ) → length m ≤ a → get_or (drawn p m) a 0 < 65536
      past a h =
          subst (λ (n : ℕ). n < 65536)
          (sym (get_or-eq_default (drawn p m) 0 (subst (λ (n : ℕ). n ≤ a) (sym (map_at_length (λ a w. cond (p a) (inked w) w) m 0)) h))) (omega arith)

  -- ---- the definition of `painted` means what it says: the rectangle's bits of M are the colour's, every other bit is as it was

  pub painted_bit : (m : List ℕ) (a i : ℕ) → a < length m → i < 16
      → bit (get_or (painted f m) a 0) i ≡ cond (inside f a && bit f.mask i) (bit f.colour i) (bit (get_or m a 0) i)
  painted_bit m a i h k = ap (λ (n : ℕ). bit n i) (drawn_at (inside f) m a h) ∙ go (inside f a)
    where
      go : (t : Bool) → bit (cond t (inked (get_or m a 0)) (get_or m a 0)) i ≡ cond (t && bit f.mask i) (bit f.colour i) (bit (get_or m a 0) i)
      go true = merged_bit (get_or m a 0) f.colour (bit f.mask) i k
      go false = refl

  pub painted_length : (m : List ℕ) → length (painted f m) ≡ length m
  painted_length m = map_at_length (λ a w. cond (inside f a) (inked w) w) m 0
