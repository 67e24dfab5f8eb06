-- Laws of the stored bytes: they are the bytes of the plan's cycles. Assumes nothing.
use Rattle.std.specs.Prelude.{ℕ, suc, ◌+◌, ◌-◌, ◌*◌, ◌≤◌, ◌<◌, ◌≡◌, length}
use Rattle.std.proofs.Math.Path.{refl, sym, ap, ap₂}
use Rattle.std.proofs.Common.{◌∙◌, zero-add, eq-eqb, ne_eqb, List, [], ◌++◌, arith}
use Rattle.std.proofs.Math.Seq.{sets}
use Rattle.numbers.specs.BufferLaws.{sets_append, sets_apart}
use Rattle.planner.proofs.SeriesLaws.{series_cong, series_shift, series_append, series_one, series_length}
use Rattle.planner.specs.Bytes.{series, place_of, columns_at, place_bytes, tag_bytes, rest_bytes, write_at, row_bytes, word_rows, block_row, block_rows}

-- ---- stores: one more after n

pub series_more : (g : ℕ → List ℕ) (k : ℕ) → ((x : ℕ) → length (g x) ≡ k) → (t : List ℕ) (at from n : ℕ)
    → sets (sets t at (series g from n)) (at + n * k) (g (from + n)) ≡ sets t at (series g from (n + 1))
series_more g k e t at from n =
    ap (λ (x : ℕ). sets (sets t at (series g from n)) (at + x) (g (from + n))) (sym (series_length g k e n from))
    ∙ ap (λ (l : List ℕ). sets (sets t at (series g from n)) (at + length (series g from n)) l) (sym (series_one g (from + n)))
    ∙ sets_append (series g from n) (series g (from + n) 1) t at
    ∙ ap (sets t at) (sym (series_append g n 1 from))

-- the three parts of a write, the place first
pub write_stored : (t : List ℕ) (at tag place value mask : ℕ)
    → sets (sets (sets t (at + 3) (place_bytes place)) at (tag_bytes tag)) (at + 7) (rest_bytes value mask) ≡ sets t at (write_at tag place value mask)
write_stored t at tag place value mask =
    let e : at + 7 ≡ at + 3 + 4 = omega arith in
    ap₂ (λ (l : List ℕ) (n : ℕ). sets l n (rest_bytes value mask)) (sets_apart (tag_bytes tag) (place_bytes place) t at (at + 3) (omega arith)) e
    ∙ sets_append (place_bytes place) (rest_bytes value mask) (sets t at (tag_bytes tag)) (at + 3)
    ∙ sets_append (tag_bytes tag) (place_bytes place ++ rest_bytes value mask) t at

-- ---- one turn of each loop

pub row_more : (tag first step value mask : ℕ) (t : List ℕ) (at n : ℕ)
    → sets (sets t at (row_bytes tag first step value mask n)) (at + n * 13) (write_at tag (first + step * n) value mask)
    ≡ sets t at (row_bytes tag first step value mask (n + 1))
unfolding row_bytes
row_more tag first step value mask t at n =
    ap (λ (x : ℕ). sets (sets t at (series (λ i. write_at tag (first + step * i) value mask) 0 n)) (at + n * 13) (write_at tag (first + step * x) value mask)) (sym (zero-add n))
    ∙ series_more (λ i. write_at tag (first + step * i) value mask) 13 (λ i. refl) t at 0 n

pub row_none : (tag first step value mask : ℕ) → row_bytes tag first step value mask 0 ≡ []
unfolding row_bytes series
row_none tag first step value mask = refl

pub row_length : (tag first step value mask n : ℕ) → length (row_bytes tag first step value mask n) ≡ 13 * n
unfolding row_bytes
row_length tag first step value mask n = series_length (λ i. write_at tag (first + step * i) value mask) 13 (λ i. refl) n 0 ∙ omega arith

-- ---- a row of blocks: the first, those between, the last

module _ (block first last mask n row : ℕ) where
  each : ℕ → List ℕ
  each i = write_at 2 (place_of row (4 * block) + 4 * i) (columns_at first last n i) mask

  pub block_row_length : length (block_row block first last mask n row) ≡ 13 * n
  unfolding block_row
  block_row_length = series_length (λ i. write_at 2 (place_of row (4 * block) + 4 * i) (columns_at first last n i) mask) 13 (λ i. refl) n 0 ∙ omega arith

  -- one block alone is the first
  pub block_one : n ≡ 1 → write_at 2 (place_of row (4 * block)) first mask ≡ block_row block first last mask n row
  unfolding block_row each
  block_one e =
      ap (λ (p : ℕ). write_at 2 p first mask) (omega arith)
      ∙ sym (series_one each 0)
      ∙ ap (series each 0) (sym e)

  -- two or more
  pub block_more : 2 ≤ n
      → write_at 2 (place_of row (4 * block)) first mask
      ++ (row_bytes 2 (place_of row (4 * block) + 4) 4 65535 mask (n - 2) ++ write_at 2 (place_of row (4 * block) + 4 * (n - 1)) last mask)
      ≡ block_row block first last mask n row
  unfolding block_row row_bytes each
  block_more h =
      ap₂ (λ (x y : List ℕ). x ++ y) one (ap₂ (λ (x y : List ℕ). x ++ y) between end)
      ∙ ap (λ (l : List ℕ). series each 0 1 ++ l) (sym (series_append each (n - 2) 1 1))
      ∙ sym (series_append each 1 (n - 2 + 1) 0)
      ∙ ap (series each 0) (omega arith)
    where
      one : write_at 2 (place_of row (4 * block)) first mask ≡ series each 0 1
      one = ap (λ (p : ℕ). write_at 2 p first mask) (omega arith) ∙ sym (series_one each 0)

      between : series (λ i. write_at 2 (place_of row (4 * block) + 4 + 4 * i) 65535 mask) 0 (n - 2) ≡ series each 1 (n - 2)
      between =
          series_cong (λ i. write_at 2 (place_of row (4 * block) + 4 + 4 * i) 65535 mask) (λ i. each (1 + i)) (n - 2) 0
          (λ i p q.
          let e : place_of row (4 * block) + 4 + 4 * i ≡ place_of row (4 * block) + 4 * (1 + i) = omega arith in
          ap₂ (λ (x y : ℕ). write_at 2 x y mask) e (sym (inner i (omega arith))))
          ∙ sym (series_shift each 1 (n - 2) 0)
        where
          inner : (i : ℕ) → i < n - 2 → columns_at first last n (1 + i) ≡ 65535
          inner i p = rw (ne_eqb (1 + i) 0 (λ e. omega arith), ne_eqb (suc (1 + i)) n (λ e. omega arith))

      end : write_at 2 (place_of row (4 * block) + 4 * (n - 1)) last mask ≡ series each (1 + (n - 2)) 1
      end =
          let e : 1 + (n - 2) ≡ n - 1 = omega arith in
          ap (λ (x : ℕ). write_at 2 (place_of row (4 * block) + 4 * (n - 1)) x mask) (sym ended)
          ∙ sym (series_one each (n - 1))
          ∙ ap (λ (x : ℕ). series each x 1) (sym e)
        where
          ended : columns_at first last n (n - 1) ≡ last
          ended = rw (ne_eqb (n - 1) 0 (λ e. omega arith), eq-eqb (suc (n - 1)) n (omega arith))

  -- and as they are stored, q being the place of the first
  module _ (q : ℕ) (e : q ≡ place_of row (4 * block)) (t : List ℕ) (at : ℕ) where
    pub one_stored : n ≡ 1 → sets t at (write_at 2 q first mask) ≡ sets t at (block_row block first last mask n row)
    one_stored h = ap (sets t at) (ap (λ (p : ℕ). write_at 2 p first mask) e ∙ block_one h)

    pub more_stored : 2 ≤ n
        → sets (sets (sets t at (write_at 2 q first mask)) (at + 13) (row_bytes 2 (q + 4) 4 65535 mask (n - 2))) (at + 13 * (n - 1)) (write_at 2 (q + 4 * (n - 1)) last mask)
        ≡ sets t at (block_row block first last mask n row)
    more_stored h =
        let f : at + 13 * (n - 1) ≡ at + 13 + length (row_bytes 2 (q + 4) 4 65535 mask (n - 2)) = omega (arith, row_length 2 (q + 4) 4 65535 mask (n - 2)) in
        ap (λ (x : ℕ). sets (sets (sets t at (write_at 2 q first mask)) (at + 13) (row_bytes 2 (q + 4) 4 65535 mask (n - 2))) x (write_at 2 (q + 4 * (n - 1)) last mask)) f
        ∙ sets_append (row_bytes 2 (q + 4) 4 65535 mask (n - 2)) (write_at 2 (q + 4 * (n - 1)) last mask) (sets t at (write_at 2 q first mask)) (at + 13)
        ∙ sets_append (write_at 2 q first mask) (row_bytes 2 (q + 4) 4 65535 mask (n - 2) ++ write_at 2 (q + 4 * (n - 1)) last mask) t at
        ∙ ap (sets t at)
        (ap (λ (p : ℕ). write_at 2 p first mask ++ (row_bytes 2 (p + 4) 4 65535 mask (n - 2) ++ write_at 2 (p + 4 * (n - 1)) last mask)) e ∙ block_more h)

-- ---- rows

module _ (column width colour mask : ℕ) where
  pub word_rows_none : (row : ℕ) → word_rows column width colour mask row 0 ≡ []
  unfolding word_rows series
  word_rows_none row = refl

  pub word_rows_more : (t : List ℕ) (row n : ℕ)
      → sets (sets t 0 (word_rows column width colour mask row n)) (n * (13 * width)) (row_bytes 1 (place_of (row + n) column) 1 colour mask width)
      ≡ sets t 0 (word_rows column width colour mask row (n + 1))
  unfolding word_rows
  word_rows_more t row n =
      ap (λ (x : ℕ). sets (sets t 0 (series (λ r. row_bytes 1 (place_of r column) 1 colour mask width) row n)) x (row_bytes 1 (place_of (row + n) column) 1 colour mask width))
      (sym (zero-add (n * (13 * width))))
      ∙ series_more (λ r. row_bytes 1 (place_of r column) 1 colour mask width) (13 * width) (λ r. row_length 1 (place_of r column) 1 colour mask width) t 0 row n

module _ (block first last mask n : ℕ) where
  pub block_rows_none : (row : ℕ) → block_rows block first last mask n row 0 ≡ []
  unfolding block_rows series
  block_rows_none row = refl

  pub block_rows_more : (t : List ℕ) (row i : ℕ)
      → sets (sets t 6 (block_rows block first last mask n row i)) (6 + i * (13 * n)) (block_row block first last mask n (row + i))
      ≡ sets t 6 (block_rows block first last mask n row (i + 1))
  unfolding block_rows
  block_rows_more t row i = series_more (block_row block first last mask n) (13 * n) (block_row_length block first last mask n) t 6 row i
