-- The bytes that the code stores are those of the plan's cycles. Assumes nothing.
use Rattle.std.specs.Prelude.{◌≡◌, refl, Bool, true, false, ◌&&◌, eqb, length}
use Rattle.std.proofs.Common.{sym, ◌∙◌, add-zero, eqb-true, ℕ, suc, ◌+◌, ◌-◌, ◌*◌, ◌/◌, ◌%◌, ◌≤◌, ◌<◌, List, [], ◌∷◌, ◌++◌, map, append-nil, arith}
use Rattle.std.proofs.Math.Path.{ap, ap₂}
use mathlib.Core.List.{map-append}
use Rattle.std.proofs.lemmas.Bool.{eqb-false}
use Rattle.numbers.specs.Between.{between, between_in}
use Rattle.words.specs.Bit.{of_bits}
use Rattle.words.specs.BitLaws.{of_bits_cong}
use Rattle.vram.specs.declared.Cycle.{Cycle}
use Rattle.vram.specs.declared.Cycle.TheVariants.{LoadColour}
use Rattle.list.specs.Encode.{encode, encode_all}
use Rattle.list.proofs.EncodedLaws.{write, encode_word, encode_block, encode_colour, encode_none, encode_first, encode_append}
use Rattle.planner.specs.Fill.{Fill, inside, touched_blocks, word_write, columns_of, block_write, by_words, by_blocks}
use Rattle.planner.proofs.FillLaws.{Sound, inside_at, words_rows, blocks_rows, across}
use Rattle.planner.specs.Bytes.{series, place_of, write_at, load_bytes, row_bytes, word_rows, columns_in, columns_at, block_row, block_rows}
use Rattle.planner.proofs.SeriesLaws.{all, series_cong, series_shift, series_length, series_through}
use Rattle.planner.proofs.BytesLaws.{row_length, block_row_length}

-- ---- bytes of cycles, number by number

module _ (g : ℕ → Cycle) where
  encode_one : (x : ℕ) → encode_all (map g (x ∷ [])) ≡ encode (g x)
  encode_one x = encode_first (g x) [] ∙ ap (λ (l : List ℕ). encode (g x) ++ l) encode_none ∙ append-nil (encode (g x))

  through : (h : ℕ → List ℕ) (n at : ℕ) → encode_all (map g (series h at n)) ≡ series (λ x. encode_all (map g (h x))) at n
  through h n at =
      series_through (λ l. encode_all (map g l)) encode_none (λ x y. ap encode_all (map-append g x y) ∙ encode_append (map g x) (map g y)) h n at

  -- n numbers from k on, as a row that counts from 0
  row_of : (k n : ℕ) → encode_all (map g (all k n)) ≡ series (λ i. encode (g (k + i))) 0 n
  row_of k n =
      through (λ x. x ∷ []) n k
      ∙ series_cong (λ x. encode_all (map g (x ∷ []))) (λ x. encode (g x)) n k (λ x l u. encode_one x)
      ∙ ap (λ (x : ℕ). series (λ y. encode (g y)) x n) (sym (add-zero k))
      ∙ series_shift (λ x. encode (g x)) k n 0

-- row and column as one number
write_place : (tag row column value mask : ℕ) → column < 65536 → write tag row column value 1 mask 3 ≡ write_at tag (place_of row column) value mask
write_place tag row column value mask h =
    let a : row / 256 ≡ (65536 * row + column) / 16777216 = omega arith in
    let b : row % 256 ≡ (65536 * row + column) / 65536 % 256 = omega arith in
    let c : column / 256 ≡ (65536 * row + column) / 256 % 256 = omega arith in
    let d : column % 256 ≡ (65536 * row + column) % 256 = omega arith in
    rw (a, b, c, d)

-- ---- words

module _ (f : Fill) where
  word_at : (r c : ℕ) → c < 512 → encode (word_write f (r * 512 + c)) ≡ write_at 1 (place_of r c) f.colour f.mask
  word_at r c h =
      let e : (r * 512 + c) / 512 ≡ r = omega arith in
      let g : (r * 512 + c) % 512 ≡ c = omega arith in
      encode_word ((r * 512 + c) / 512) ((r * 512 + c) % 512) f.colour 1 f.mask 3
      ∙ ap₂ (λ (x y : ℕ). write 1 x y f.colour 1 f.mask 3) e g
      ∙ write_place 1 r c f.colour f.mask (omega arith)

  word_row : (r c n : ℕ) → c + n ≤ 512 → encode_all (map (word_write f) (all (r * 512 + c) n)) ≡ row_bytes 1 (place_of r c) 1 f.colour f.mask n
  unfolding row_bytes
  word_row r c n h =
      row_of (word_write f) (r * 512 + c) n
      ∙ series_cong (λ i. encode (word_write f (r * 512 + c + i))) (λ i. write_at 1 (place_of r c + 1 * i) f.colour f.mask) n 0
      (λ i l u.
      let e : r * 512 + c + i ≡ r * 512 + (c + i) = omega arith in
      let g : place_of r (c + i) ≡ place_of r c + 1 * i = omega arith in
      ap (λ (x : ℕ). encode (word_write f x)) e ∙ word_at r (c + i) (omega arith) ∙ ap (λ (x : ℕ). write_at 1 x f.colour f.mask) g)

  pub words_bytes : Sound f → encode_all (by_words f) ≡ word_rows f.first_column (f.end_column - f.first_column) f.colour f.mask f.first_row (f.end_row - f.first_row)
  unfolding word_rows
  words_bytes s =
      let o = s.column_order in
      let m = s.column_end in
      let n : ℕ = f.end_column - f.first_column in
      ap (λ (l : List ℕ). encode_all (map (word_write f) l)) (words_rows f s)
      ∙ through (word_write f) (λ r. all (r * 512 + f.first_column) n) (f.end_row - f.first_row) f.first_row
      ∙ series_cong (λ r. encode_all (map (word_write f) (all (r * 512 + f.first_column) n))) (λ r. row_bytes 1 (place_of r f.first_column) 1 f.colour f.mask n)
      (f.end_row - f.first_row) f.first_row (λ r l u. word_row r f.first_column n (omega arith))

-- ---- blocks

module _ (f : Fill) (s : Sound f) (some : f.first_column < f.end_column) where
  -- the column mask of a block in a row of the rectangle
  columns_row : (r k : ℕ) → f.first_row ≤ r → r < f.end_row → k < 128 → columns_of f (r * 128 + k) ≡ columns_in f.first_column f.end_column k
  unfolding columns_of columns_in
  columns_row r k l u h =
      of_bits_cong 16 (λ b. inside f (4 * (r * 128 + k) + b % 4)) (λ b. between f.first_column f.end_column (4 * k + b % 4))
      (λ b i.
      let e : 4 * (r * 128 + k) + b % 4 ≡ r * 512 + (4 * k + b % 4) = omega arith in
      ap (inside f) e
      ∙ inside_at f r (4 * k + b % 4) (omega arith)
      ∙ ap (λ (t : Bool). t && between f.first_column f.end_column (4 * k + b % 4)) (between_in f.first_row f.end_row r l u))

  -- a block between the first and the last is whole
  columns_whole : (k : ℕ) → f.first_column ≤ 4 * k → 4 * k + 4 ≤ f.end_column → columns_in f.first_column f.end_column k ≡ 65535
  unfolding columns_in of_bits
  columns_whole k l u =
      of_bits_cong 16 (λ b. between f.first_column f.end_column (4 * k + b % 4)) (λ b. true)
      (λ b i. between_in f.first_column f.end_column (4 * k + b % 4) (omega arith) (omega arith))

  abbrev first : ℕ
  first = columns_in f.first_column f.end_column (f.first_column / 4)

  abbrev last : ℕ
  last = columns_in f.first_column f.end_column (f.first_column / 4 + (across f - 1))

  columns_here : (i : ℕ) → i < across f → columns_in f.first_column f.end_column (f.first_column / 4 + i) ≡ columns_at first last (across f) i
  columns_here i h = go (eqb i 0) (eqb (suc i) (across f)) refl refl
    where
      go : (t u : Bool) → eqb i 0 ≡ t → eqb (suc i) (across f) ≡ u → columns_in f.first_column f.end_column (f.first_column / 4 + i) ≡ columns_at first last (across f) i
      go true u p q = let z : i ≡ 0 = eqb-true i 0 p in rw p (ap (λ (x : ℕ). columns_in f.first_column f.end_column x) (omega arith))
      go false true p q =
          let z : suc i ≡ across f = eqb-true (suc i) (across f) q in
          rw (p, q) (ap (λ (x : ℕ). columns_in f.first_column f.end_column (f.first_column / 4 + x)) (omega arith))
      go false false p q =
          let z = eqb-false i 0 p in
          let y = eqb-false (suc i) (across f) q in
          rw (p, q) (columns_whole (f.first_column / 4 + i) (omega arith) (omega arith))

  block_at : (r i : ℕ) → f.first_row ≤ r → r < f.end_row → i < across f
      → encode (block_write f (r * 128 + f.first_column / 4 + i)) ≡ write_at 2 (place_of r (4 * (f.first_column / 4)) + 4 * i) (columns_at first last (across f) i) f.mask
  block_at r i l u h =
      let m = s.column_end in
      let k : ℕ = f.first_column / 4 + i in
      let z : r * 128 + f.first_column / 4 + i ≡ r * 128 + k = omega arith in
      let e : (r * 128 + k) / 128 ≡ r = omega arith in
      let g : (r * 128 + k) % 128 ≡ k = omega arith in
      let p : place_of r (4 * k) ≡ place_of r (4 * (f.first_column / 4)) + 4 * i = omega arith in
      ap (λ (x : ℕ). encode (block_write f x)) z
      ∙ encode_block ((r * 128 + k) / 128) (4 * ((r * 128 + k) % 128)) (columns_of f (r * 128 + k)) 1 f.mask 3
      ∙ ap₂ (λ (x y : ℕ). write 2 x (4 * y) (columns_of f (r * 128 + k)) 1 f.mask 3) e g
      ∙ ap (λ (x : ℕ). write 2 r (4 * k) x 1 f.mask 3) (columns_row r k l u (omega arith) ∙ columns_here i h)
      ∙ write_place 2 r (4 * k) (columns_at first last (across f) i) f.mask (omega arith)
      ∙ ap (λ (x : ℕ). write_at 2 x (columns_at first last (across f) i) f.mask) p

  block_row_within : (r : ℕ) → f.first_row ≤ r → r < f.end_row
      → encode_all (map (block_write f) (all (r * 128 + f.first_column / 4) (across f))) ≡ block_row (f.first_column / 4) first last f.mask (across f) r
  unfolding block_row
  block_row_within r l u =
      row_of (block_write f) (r * 128 + f.first_column / 4) (across f)
      ∙ series_cong (λ i. encode (block_write f (r * 128 + f.first_column / 4 + i)))
      (λ i. write_at 2 (place_of r (4 * (f.first_column / 4)) + 4 * i) (columns_at first last (across f) i) f.mask) (across f) 0 (λ i p q. block_at r i l u (omega arith))

  pub blocks_bytes : encode_all (by_blocks f) ≡ load_bytes f.colour ++ block_rows (f.first_column / 4) first last f.mask (across f) f.first_row (f.end_row - f.first_row)
  unfolding block_rows
  blocks_bytes =
      let o = s.row_order in
      encode_first (LoadColour f.colour 3) (map (block_write f) (touched_blocks f))
      ∙ ap₂ (λ (x y : List ℕ). x ++ y) (encode_colour f.colour 3)
      (ap (λ (l : List ℕ). encode_all (map (block_write f) l)) (blocks_rows f s some)
      ∙ through (block_write f) (λ r. all (r * 128 + f.first_column / 4) (across f)) (f.end_row - f.first_row) f.first_row
      ∙ series_cong (λ r. encode_all (map (block_write f) (all (r * 128 + f.first_column / 4) (across f)))) (block_row (f.first_column / 4) first last f.mask (across f))
      (f.end_row - f.first_row) f.first_row (λ r l u. block_row_within r l (omega arith)))

-- ---- how many bytes

pub word_bytes_length : (column width colour mask row height : ℕ) → length (word_rows column width colour mask row height) ≡ 13 * (height * width)
unfolding word_rows
word_bytes_length column width colour mask row height =
    series_length (λ r. row_bytes 1 (place_of r column) 1 colour mask width) (13 * width) (λ r. row_length 1 (place_of r column) 1 colour mask width) height row ∙ omega arith

pub block_bytes_length : (block first last mask n row height : ℕ) → length (block_rows block first last mask n row height) ≡ 13 * (height * n)
unfolding block_rows
block_bytes_length block first last mask n row height =
    series_length (block_row block first last mask n) (13 * n) (block_row_length block first last mask n) height row ∙ omega arith
