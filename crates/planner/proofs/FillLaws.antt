-- Laws of the rectangle: words covered and blocks touched, row by row and in closed form. Assumes nothing.
use Rattle.std.specs.Prelude.{ℕ, zero, suc, ◌+◌, ◌-◌, ◌*◌, ◌/◌, ◌%◌, ◌≤◌, ◌<◌, max, min, ◌≡◌, Bool, ◌&&◌, ◌||◌, [], ◌∷◌, map, ◌≢◌, leb, length}
use Rattle.std.proofs.Math.Path.{refl, ap, ap₂}
use Rattle.std.proofs.Common.{sym, ◌∙◌, mul-one, arith, eq-eqb, ne_eqb, leb-true, leb-false, le-leb}
use Rattle.std.proofs.Math.Bool.{true, false}
use Rattle.std.proofs.lemmas.List.{length-map}
use borrow.Author.Tests.{lt-leb}
use Rattle.numbers.specs.Between.{between, both, same_truth, between_in, between_says}
use Rattle.planner.specs.Fill.{Fill, inside, touched, covered_words, touched_blocks, W, B, word_write, block_write, by_words, by_blocks, plan}
use Rattle.planner.specs.Bytes.{series}
use Rattle.planner.proofs.SeriesLaws.{all, series_length, picked_grid}

-- ---- a rectangle that is not refused

pub record Sound (f : Fill) : Type 0 where
  pub rows_least : 1 ≤ f.rows
  pub rows_most : f.rows ≤ 512
  pub row_order : f.first_row ≤ f.end_row
  pub column_order : f.first_column ≤ f.end_column
  pub column_end : f.end_column ≤ 512
  pub row_end : f.end_row ≤ f.rows

-- ---- words

module _ (f : Fill) where
  -- by row and column
  pub inside_at : (r c : ℕ) → c < 512 → inside f (r * 512 + c) ≡ (between f.first_row f.end_row r && between f.first_column f.end_column c)
  unfolding inside
  inside_at r c h =
      let e : (r * 512 + c) / 512 ≡ r = omega arith in
      let g : (r * 512 + c) % 512 ≡ c = omega arith in
      ap₂ (λ (x y : ℕ). between f.first_row f.end_row x && between f.first_column f.end_column y) e g

  pub record Inside (a : ℕ) : Type 0 where
    pub row_from : f.first_row ≤ a / 512
    pub row_to : a / 512 < f.end_row
    pub column_from : f.first_column ≤ a % 512
    pub column_to : a % 512 < f.end_column

  pub inside_says : (a : ℕ) → inside f a ≡ true → Inside a
  unfolding inside
  inside_says a e =
      let b = both (between f.first_row f.end_row (a / 512)) (between f.first_column f.end_column (a % 512)) e in
      let r = between_says f.first_row f.end_row (a / 512) b.0 in
      let c = between_says f.first_column f.end_column (a % 512) b.1 in
      record { row_from = r.0; row_to = r.1; column_from = c.0; column_to = c.1 }

  pub inside_in : (a : ℕ) → Inside a → inside f a ≡ true
  unfolding inside
  inside_in a i =
      rw (between_in f.first_row f.end_row (a / 512) i.row_from i.row_to, between_in f.first_column f.end_column (a % 512) i.column_from i.column_to)

  -- ---- blocks

  -- a touched block has a word inside
  pub touched_says : (k : ℕ) → touched f k ≡ true → (a : ℕ) × (a / 4 ≡ k) × (inside f a ≡ true)
  unfolding touched
  touched_says k e = go (inside f (4 * k)) (inside f (4 * k + 1)) (inside f (4 * k + 2)) refl refl refl e
    where
      go : (p q r : Bool) → inside f (4 * k) ≡ p → inside f (4 * k + 1) ≡ q → inside f (4 * k + 2) ≡ r
          → ((p || q) || (r || inside f (4 * k + 3))) ≡ true → (a : ℕ) × (a / 4 ≡ k) × (inside f a ≡ true)
      go true q r u v w e = (4 * k, omega arith, u)
      go false true r u v w e = (4 * k + 1, omega arith, v)
      go false false true u v w e = (4 * k + 2, omega arith, w)
      go false false false u v w e = (4 * k + 3, omega arith, e)

  -- a word inside touches its block
  pub touched_in : (a : ℕ) → inside f a ≡ true → touched f (a / 4) ≡ true
  unfolding touched
  touched_in a e = go (a % 4) (omega arith) (omega arith)
    where
      word : (j : ℕ) → a ≡ 4 * (a / 4) + j → inside f (4 * (a / 4) + j) ≡ true
      word j z = ap (inside f) (sym z) ∙ e

      last : (p q r : Bool) → ((p || q) || (r || true)) ≡ true
      last true q r = refl
      last false true r = refl
      last false false true = refl
      last false false false = refl

      third : (p q s : Bool) → ((p || q) || (true || s)) ≡ true
      third true q s = refl
      third false true s = refl
      third false false s = refl

      second : (p t : Bool) → ((p || true) || t) ≡ true
      second true t = refl
      second false t = refl

      go : (j : ℕ) → j < 4 → a ≡ 4 * (a / 4) + j
          → ((inside f (4 * (a / 4)) || inside f (4 * (a / 4) + 1)) || (inside f (4 * (a / 4) + 2) || inside f (4 * (a / 4) + 3))) ≡ true
      go zero h z = let y : a ≡ 4 * (a / 4) = omega arith in rw (ap (inside f) (sym y) ∙ e)
      go (suc zero) h z = rw (word 1 z) (second (inside f (4 * (a / 4))) (inside f (4 * (a / 4) + 2) || inside f (4 * (a / 4) + 3)))
      go (suc (suc zero)) h z = rw (word 2 z) (third (inside f (4 * (a / 4))) (inside f (4 * (a / 4) + 1)) (inside f (4 * (a / 4) + 3)))
      go (suc (suc (suc zero))) h z = rw (word 3 z) (last (inside f (4 * (a / 4))) (inside f (4 * (a / 4) + 1)) (inside f (4 * (a / 4) + 2)))
      go (suc (suc (suc (suc j)))) h z = absurd (omega arith)

  -- by row and block of the row, where the rectangle has columns
  pub touched_at : f.first_column < f.end_column → f.end_column ≤ 512 → (r k : ℕ) → k < 128
      → touched f (r * 128 + k) ≡ (between f.first_row f.end_row r && between (f.first_column / 4) ((f.end_column + 3) / 4) k)
  touched_at n m r k h =
      same_truth (touched f (r * 128 + k)) (between f.first_row f.end_row r && between (f.first_column / 4) ((f.end_column + 3) / 4) k) forth back
    where
      forth : touched f (r * 128 + k) ≡ true → (between f.first_row f.end_row r && between (f.first_column / 4) ((f.end_column + 3) / 4) k) ≡ true
      forth e =
          let t = touched_says (r * 128 + k) e in
          let i = inside_says t.0 t.2 in
          let z : t.0 / 512 ≡ r = omega (arith, t.1) in
          let y : t.0 % 512 / 4 ≡ k = omega (arith, t.1) in
          let p = i.row_from in
          let q = i.row_to in
          let u = i.column_from in
          let v = i.column_to in
          rw (between_in f.first_row f.end_row r (omega arith) (omega arith), between_in (f.first_column / 4) ((f.end_column + 3) / 4) k (omega arith) (omega arith))

      back : (between f.first_row f.end_row r && between (f.first_column / 4) ((f.end_column + 3) / 4) k) ≡ true → touched f (r * 128 + k) ≡ true
      back e =
          let b = both (between f.first_row f.end_row r) (between (f.first_column / 4) ((f.end_column + 3) / 4) k) e in
          let u = between_says f.first_row f.end_row r b.0 in
          let v = between_says (f.first_column / 4) ((f.end_column + 3) / 4) k b.1 in
          let c : ℕ = max f.first_column (4 * k) in
          let l : c < 512 = omega arith in
          let z : (r * 512 + c) / 4 ≡ r * 128 + k = omega arith in
          ap (touched f) (sym z)
          ∙ touched_in (r * 512 + c)
          (inside_at r c l ∙ rw b.0 (between_in f.first_column f.end_column c (omega arith) (omega arith)))

-- ---- row by row, and how many

-- how many blocks of a row are touched
abbrev pub across : Fill → ℕ
across f = (f.end_column + 3) / 4 - f.first_column / 4

module _ (f : Fill) (s : Sound f) where
  pub words_rows : covered_words f ≡ series (λ r. all (r * 512 + f.first_column) (f.end_column - f.first_column)) f.first_row (f.end_row - f.first_row)
  words_rows =
      picked_grid (inside f) 512 f.rows f.first_row f.end_row f.first_column f.end_column s.row_order s.row_end s.column_order s.column_end (inside_at f)

  all_length : (at n : ℕ) → length (all at n) ≡ n
  all_length at n = series_length (λ x. x ∷ []) 1 (λ x. refl) n at ∙ mul-one n

  pub words_closed : W f ≡ (f.end_row - f.first_row) * (f.end_column - f.first_column)
  words_closed =
      ap length words_rows
      ∙ series_length (λ r. all (r * 512 + f.first_column) (f.end_column - f.first_column)) (f.end_column - f.first_column)
      (λ r. all_length (r * 512 + f.first_column) (f.end_column - f.first_column)) (f.end_row - f.first_row) f.first_row

  module _ (n : f.first_column < f.end_column) where
    pub blocks_rows : touched_blocks f ≡ series (λ r. all (r * 128 + f.first_column / 4) (across f)) f.first_row (f.end_row - f.first_row)
    blocks_rows =
        let e = s.column_end in
        picked_grid (touched f) 128 f.rows f.first_row f.end_row (f.first_column / 4) ((f.end_column + 3) / 4) s.row_order s.row_end (omega arith) (omega arith)
        (touched_at f n s.column_end)

    pub blocks_closed : B f ≡ (f.end_row - f.first_row) * across f
    blocks_closed =
        ap length blocks_rows
        ∙ series_length (λ r. all (r * 128 + f.first_column / 4) (across f)) (across f) (λ r. all_length (r * 128 + f.first_column / 4) (across f)) (f.end_row - f.first_row) f.first_row

-- ---- which list it is

module _ (f : Fill) where
  pub plan_nothing : f.mask ≡ 0 → plan f ≡ []
  unfolding plan
  plan_nothing e = rw (eq-eqb f.mask 0 e)

  pub plan_words : f.mask ≢ 0 → W f ≤ 1 + B f → plan f ≡ by_words f
  unfolding plan
  plan_words n h = rw (ne_eqb f.mask 0 n, le-leb (W f) (1 + B f) h)

  pub plan_blocks : f.mask ≢ 0 → 1 + B f < W f → plan f ≡ by_blocks f
  unfolding plan
  plan_blocks n h = rw (ne_eqb f.mask 0 n, lt-leb (W f) (1 + B f) h)

  -- how many cycles
  pub plan_length : f.mask ≢ 0 → length (plan f) ≡ min (W f) (1 + B f)
  plan_length n = go (leb (W f) (1 + B f)) refl
    where
      go : (t : Bool) → leb (W f) (1 + B f) ≡ t → length (plan f) ≡ min (W f) (1 + B f)
      go true e =
          let h : W f ≤ 1 + B f = leb-true (W f) (1 + B f) e in
          ap length (plan_words n h) ∙ length-map (covered_words f) (word_write f) ∙ omega arith
      go false e =
          let h : 1 + B f < W f = leb-false (W f) (1 + B f) e in
          let l : length (map (block_write f) (touched_blocks f)) ≡ B f = length-map (touched_blocks f) (block_write f) in
          ap length (plan_blocks n h) ∙ omega arith
