-- Laws of series, and of numbers picked row by row. Assumes nothing.
use Rattle.std.specs.Prelude.{◌≡◌, Bool, ◌&&◌, length}
use Rattle.std.proofs.Math.Path.{refl, sym, ap, ap₂}
use Rattle.std.proofs.Common.{◌∙◌, add-zero, zero-add, zero-mul, add-mul, mul_comm, ℕ, zero, suc, ◌+◌, ◌-◌, ◌*◌, ◌≤◌, ◌<◌, List, [], ◌∷◌, ◌++◌, append_assoc, append-nil, arith}
use Rattle.std.proofs.Math.Bool.{true, false, cond}
use Rattle.std.proofs.Math.Nat.{suc-mul}
use Rattle.std.proofs.Math.ListN.{length-append}
use Rattle.numbers.specs.Between.{between, between_in, between_out}
use Rattle.planner.specs.Fill.{picked}
use Rattle.planner.specs.Bytes.{series}

-- ---- series

module _ {A : Type 0} where
  pub series_cong : (g h : ℕ → List A) (n at : ℕ) → ((x : ℕ) → at ≤ x → x < at + n → g x ≡ h x) → series g at n ≡ series h at n
  unfolding series
  series_cong g h zero at e = refl
  series_cong g h (suc n) at e =
      ap₂ (λ (x y : List A). x ++ y) (e at (omega arith) (omega arith)) (series_cong g h n (suc at) (λ x p q. e x (omega arith) (omega arith)))

  -- counted from another number
  pub series_shift : (g : ℕ → List A) (k n at : ℕ) → series g (k + at) n ≡ series (λ x. g (k + x)) at n
  unfolding series
  series_shift g k zero at = refl
  series_shift g k (suc n) at =
      let e : suc (k + at) ≡ k + suc at = omega arith in
      ap (λ (l : List A). g (k + at) ++ l) (ap (λ (x : ℕ). series g x n) e ∙ series_shift g k n (suc at))

  pub series_append : (g : ℕ → List A) (m n at : ℕ) → series g at (m + n) ≡ series g at m ++ series g (at + m) n
  unfolding series
  series_append g zero n at =
      let e : 0 + n ≡ n = omega arith in
      ap₂ (λ (k x : ℕ). series g x k) e (sym (add-zero at))
  series_append g (suc m) n at =
      let e : suc m + n ≡ suc (m + n) = omega arith in
      let f : suc at + m ≡ at + suc m = omega arith in
      ap (series g at) e
      ∙ ap (λ (l : List A). g at ++ l) (series_append g m n (suc at) ∙ ap (λ (x : ℕ). series g (suc at) m ++ series g x n) f)
      ∙ sym (append_assoc (g at) (series g (suc at) m) (series g (at + suc m) n))

  pub series_one : (g : ℕ → List A) (at : ℕ) → series g at 1 ≡ g at
  unfolding series
  series_one g at = append-nil (g at)

  series_nothing : (n at : ℕ) → ◌≡◌ {A = List A} (series (λ x. []) at n) []
  unfolding series
  series_nothing zero at = refl
  series_nothing (suc n) at = series_nothing n (suc at)

  pub series_length : (g : ℕ → List A) (k : ℕ) → ((x : ℕ) → length (g x) ≡ k) → (n at : ℕ) → length (series g at n) ≡ n * k
  unfolding series
  series_length g k e zero at = sym (zero-mul k)
  series_length g k e (suc n) at = omega (arith, length-append (g at) (series g (suc at) n), e at, series_length g k e n (suc at), suc-mul n k)

-- what turns joined lists into joined lists, turns a series into one
pub series_through : {A B : Type 0} (t : List A → List B) → t [] ≡ [] → ((x y : List A) → t (x ++ y) ≡ t x ++ t y)
    → (g : ℕ → List A) (n at : ℕ) → t (series g at n) ≡ series (λ x. t (g x)) at n
unfolding series
series_through t e f g zero at = e
series_through t e f g (suc n) at = f (g at) (series g (suc at) n) ∙ ap (λ l. t (g at) ++ l) (series_through t e f g n (suc at))

-- ---- numbers that pass a test

-- n numbers from `at` on
abbrev pub all : ℕ → ℕ → List ℕ
all at n = series (λ x. x ∷ []) at n

module _ (p : ℕ → Bool) where
  abbrev kept : ℕ → List ℕ
  kept x = cond (p x) (x ∷ []) []

  picked_series : (n at : ℕ) → picked p at n ≡ series kept at n
  unfolding picked series
  picked_series zero at = refl
  picked_series (suc n) at = go (p at) (picked_series n (suc at))
    where
      go : (t : Bool) → picked p (suc at) n ≡ series kept (suc at) n
          → cond t (at ∷ picked p (suc at) n) (picked p (suc at) n) ≡ cond t (at ∷ []) [] ++ series kept (suc at) n
      go true i = ap (λ (l : List ℕ). at ∷ l) i
      go false i = i

  picked_append : (m n at : ℕ) → picked p at (m + n) ≡ picked p at m ++ picked p (at + m) n
  picked_append m n at =
      picked_series (m + n) at
      ∙ series_append kept m n at
      ∙ sym (ap₂ (λ (x y : List ℕ). x ++ y) (picked_series m at) (picked_series n (at + m)))

  picked_all : (n at : ℕ) → ((x : ℕ) → at ≤ x → x < at + n → p x ≡ true) → picked p at n ≡ all at n
  picked_all n at e = picked_series n at ∙ series_cong kept (λ x. x ∷ []) n at (λ x l u. ap (λ (t : Bool). cond t (x ∷ []) []) (e x l u))

  pub picked_none : (n at : ℕ) → ((x : ℕ) → at ≤ x → x < at + n → p x ≡ false) → picked p at n ≡ []
  picked_none n at e =
      picked_series n at ∙ series_cong kept (λ x. []) n at (λ x l u. ap (λ (t : Bool). cond t (x ∷ []) []) (e x l u)) ∙ series_nothing n at

  -- a row of w numbers, of which those from lo up to hi pass
  picked_row : (w lo hi at : ℕ) → lo ≤ hi → hi ≤ w → ((c : ℕ) → c < w → p (at + c) ≡ between lo hi c) → picked p at w ≡ all (at + lo) (hi - lo)
  picked_row w lo hi at h k e =
      let s : w ≡ lo + ((hi - lo) + (w - hi)) = omega arith in
      let t : at + lo + (hi - lo) ≡ at + hi = omega arith in
      let f : (x : ℕ) → at ≤ x → x < at + w → p x ≡ between lo hi (x - at) =
      λ x l u.
      let z : at + (x - at) ≡ x = omega arith in
      ap p (sym z) ∙ e (x - at) (omega arith) in
      ap (picked p at) s
      ∙ picked_append lo ((hi - lo) + (w - hi)) at
      ∙ ap₂ (λ (x y : List ℕ). x ++ y)
      (picked_none lo at (λ x l u. f x l (omega arith) ∙ between_out lo hi (x - at) (λ b. omega arith)))
      (picked_append (hi - lo) (w - hi) (at + lo)
      ∙ ap₂ (λ (x y : List ℕ). x ++ y)
      (picked_all (hi - lo) (at + lo) (λ x l u. f x (omega arith) (omega arith) ∙ between_in lo hi (x - at) (omega arith) (omega arith)))
      (picked_none (w - hi) (at + lo + (hi - lo)) (λ x l u. f x (omega arith) (omega arith) ∙ between_out lo hi (x - at) (λ b. omega arith))))
      ∙ append-nil (all (at + lo) (hi - lo))

  -- rows of w numbers
  picked_rows : (w : ℕ) (g : ℕ → List ℕ) (h r : ℕ) → ((x : ℕ) → r ≤ x → x < r + h → picked p (x * w) w ≡ g x) → picked p (r * w) (h * w) ≡ series g r h
  unfolding picked series
  picked_rows w g zero r e = ap (picked p (r * w)) (zero-mul w)
  picked_rows w g (suc h) r e =
      let s : suc h * w ≡ w + h * w = omega (arith, suc-mul h w) in
      let t : r * w + w ≡ suc r * w = sym (suc-mul r w) in
      ap (picked p (r * w)) s
      ∙ picked_append w (h * w) (r * w)
      ∙ ap₂ (λ (x y : List ℕ). x ++ y) (e r (omega arith) (omega arith))
      (ap (λ (x : ℕ). picked p x (h * w)) t ∙ picked_rows w g h (suc r) (λ x l u. e x (omega arith) (omega arith)))

  -- a rectangle in rows of w numbers
  pub picked_grid : (w rows first end lo hi : ℕ) → first ≤ end → end ≤ rows → lo ≤ hi → hi ≤ w
      → ((r c : ℕ) → c < w → p (r * w + c) ≡ (between first end r && between lo hi c))
      → picked p 0 (w * rows) ≡ series (λ r. all (r * w + lo) (hi - lo)) first (end - first)
  picked_grid w rows first end lo hi hr he hl hh e =
      ap (picked p 0) (mul_comm w rows ∙ ap (λ (x : ℕ). x * w) whole ∙ add-mul first ((end - first) + (rows - end)) w ∙ ap (λ (x : ℕ). first * w + x) (add-mul (end - first) (rows - end) w))
      ∙ picked_append (first * w) ((end - first) * w + (rows - end) * w) 0
      ∙ ap₂ (λ (x y : List ℕ). x ++ y) above
      (ap (λ (x : ℕ). picked p x ((end - first) * w + (rows - end) * w)) (zero-add (first * w))
      ∙ picked_append ((end - first) * w) ((rows - end) * w) (first * w)
      ∙ ap₂ (λ (x y : List ℕ). x ++ y) amid (ap (λ (x : ℕ). picked p x ((rows - end) * w)) ends ∙ below))
      ∙ append-nil (series (λ r. all (r * w + lo) (hi - lo)) first (end - first))
    where
      whole : rows ≡ first + ((end - first) + (rows - end))
      whole = omega arith

      ends : first * w + (end - first) * w ≡ end * w
      ends = sym (add-mul first (end - first) w) ∙ ap (λ (x : ℕ). x * w) (omega arith)

      outside : (r : ℕ) → ((first ≤ r) × (r < end) → ⊥) → picked p (r * w) w ≡ []
      outside r o =
          picked_none w (r * w)
          (λ x l u.
          let z : r * w + (x - r * w) ≡ x = omega arith in
          ap p (sym z) ∙ e r (x - r * w) (omega arith) ∙ ap (λ (t : Bool). t && between lo hi (x - r * w)) (between_out first end r o))

      nothing : (h r : ℕ) → ((x : ℕ) → r ≤ x → x < r + h → (first ≤ x) × (x < end) → ⊥) → picked p (r * w) (h * w) ≡ []
      nothing h r o = picked_rows w (λ x. []) h r (λ x l u. outside x (o x l u)) ∙ series_nothing h r

      above : picked p 0 (first * w) ≡ []
      above = ap (λ (x : ℕ). picked p x (first * w)) (sym (zero-mul w)) ∙ nothing first 0 (λ x l u b. omega arith)

      below : picked p (end * w) ((rows - end) * w) ≡ []
      below = nothing (rows - end) end (λ x l u b. omega arith)

      amid : picked p (first * w) ((end - first) * w) ≡ series (λ r. all (r * w + lo) (hi - lo)) first (end - first)
      amid =
          picked_rows w (λ r. all (r * w + lo) (hi - lo)) (end - first) first
          (λ r l u. picked_row w lo hi (r * w) hl hh (λ c k. e r c k ∙ ap (λ (t : Bool). t && between lo hi c) (between_in first end r l (omega arith))))
