-- Laws of what a fill comes to. Assumes nothing.
use Rattle.std.specs.Prelude.{ℕ, ◌+◌, ◌-◌, ◌*◌, ◌/◌, ◌≤◌, ◌<◌, ◌≡◌, Bool, cond, ◌≢◌}
use Rattle.std.proofs.Math.Path.{refl, sym}
use Rattle.std.proofs.Common.{ap, ◌∙◌, subst, arith, mul-le-mul, [], eqb-true, eq-eqb, ne_eqb, leb-true, leb-false, le-leb}
use Rattle.std.proofs.Math.Bool.{true, false}
use Rattle.std.proofs.Math.Dec.{eqb, leb}
use Rattle.std.proofs.Math.ListN.{length, length-map}
use Rattle.std.specs.Prelude.{List}
use borrow.Author.Tests.{eqb-false, lt-leb}
use Rattle.numbers.specs.RefuseLaws.{refuse_zero, leaves_made}
use Rattle.list.specs.Encode.{encode_all}
use Rattle.list.proofs.EncodedLaws.{encode_none}
use Rattle.planner.specs.Fill.{Fill, fill, inside, touched, covered_words, touched_blocks, W, B, word_write, block_write, plan}
use Rattle.planner.proofs.FillLaws.{Sound, across, words_closed, blocks_closed, plan_words, plan_blocks}
use lib.Seq.{sets}
use Rattle.planner.specs.declared.Filled.{Filled}
use Rattle.planner.specs.Bytes.{word_rows, columns_in}
use Rattle.planner.proofs.PlanLaws.{words_bytes, blocks_bytes, word_bytes_length, block_bytes_length}
use Rattle.numbers.specs.Refuse.{refuse}
use Rattle.planner.specs.Calls.{asked_refusal, list_of, outcome, fill_answer, fill_call, measure_call}
use Rattle.planner.proofs.CallLaws.{filled, refuses, stored_done, asked_sound, fill_stores, plan_empty, some_mask, some_columns, block_bytes}
use Rattle.planner.specs.Shapes.{Shape, Refused, Nothing, Words, Blocks, nothing, shape_of, shape_size, shape_answer}

-- ---- what each shape says of its fill

abbrev pub Says : Fill → Shape → Type 0
Says f (Refused number) = (number ≡ asked_refusal f) × (number ≢ 0)
Says f Nothing = (asked_refusal f ≡ 0) × (nothing f ≡ true)
Says f (Words words) = (asked_refusal f ≡ 0) × (nothing f ≡ false) × (words ≡ W f) × (W f ≤ 1 + B f)
Says f (Blocks blocks) = (asked_refusal f ≡ 0) × (nothing f ≡ false) × (blocks ≡ B f) × (1 + B f < W f)

module _ (f : Fill) where
  pub shape_says : Says f (shape_of f)
  unfolding shape_of
  shape_says = go (eqb (asked_refusal f) 0) (nothing f) (leb (W f) (1 + B f)) refl refl refl
    where
      go : (t u v : Bool) → eqb (asked_refusal f) 0 ≡ t → nothing f ≡ u → leb (W f) (1 + B f) ≡ v
          → Says f (cond t (cond u Nothing (cond v (Words (W f)) (Blocks (B f)))) (Refused (asked_refusal f)))
      go true true v p q r = (eqb-true _ _ p, q)
      go true false true p q r = (eqb-true _ _ p, q, refl, leb-true _ _ r)
      go true false false p q r = (eqb-true _ _ p, q, refl, leb-false _ _ r)
      go false u v p q r = (refl, eqb-false _ _ p)

  -- of the shape that the code has
  pub shape_known : (s : Shape) → s ≡ shape_of f → Says f s
  shape_known s e = subst (Says f) (sym e) shape_says

  -- and back
  pub shape_refused : (n : ℕ) → n ≡ asked_refusal f → n ≢ 0 → Refused n ≡ shape_of f
  unfolding shape_of
  shape_refused n e h = rw (ne_eqb (asked_refusal f) 0 (λ z. h (e ∙ z))) (ap Refused e)

  module _ (z : asked_refusal f ≡ 0) where
    pub shape_nothing : nothing f ≡ true → Nothing ≡ shape_of f
    unfolding shape_of
    shape_nothing q = rw (eq-eqb (asked_refusal f) 0 z, q)

    module _ (q : nothing f ≡ false) (w b : ℕ) (p : w ≡ (f.end_row - f.first_row) * (f.end_column - f.first_column)) (r : b ≡ (f.end_row - f.first_row) * across f) where
      s : Sound f
      s = asked_sound f z

      words_are : w ≡ W f
      words_are = p ∙ sym (words_closed f s)

      blocks_are : b ≡ B f
      blocks_are = r ∙ sym (blocks_closed f s (some_columns f [] z q))

      pub shape_words : w ≤ 1 + b → Words w ≡ shape_of f
      unfolding shape_of
      shape_words h = rw (eq-eqb (asked_refusal f) 0 z, q, le-leb (W f) (1 + B f) (omega (arith, words_are, blocks_are))) (ap Words words_are)

      pub shape_blocks : 1 + b < w → Blocks b ≡ shape_of f
      unfolding shape_of
      shape_blocks h = rw (eq-eqb (asked_refusal f) 0 z, q, lt-leb (W f) (1 + B f) (omega (arith, words_are, blocks_are))) (ap Blocks blocks_are)

  -- ---- the answer of each

  module _ (n : ℕ) where
    answers : (bytes cycles : ℕ) → asked_refusal f ≡ 0 → length (list_of f) ≡ bytes → length (plan f) ≡ cycles
        → record { number = 0; bytes = bytes; cycles = cycles } ≡ measure_call f
    unfolding measure_call
    answers bytes cycles z e g = sym (rw (eq-eqb (asked_refusal f) 0 z, z, e, g))

    pub answer_refused : Says f (Refused n) → shape_answer (Refused n) ≡ measure_call f
    unfolding shape_answer measure_call
    answer_refused s = rw (sym s.0, ne_eqb n 0 s.1)

    pub answer_nothing : Says f Nothing → shape_answer Nothing ≡ measure_call f
    unfolding shape_answer
    answer_nothing s =
        let e = plan_empty f [] s.0 s.1 in
        answers 0 0 s.0 (ap length (ap encode_all e ∙ encode_none)) (ap length e)

    pub words_list : Says f (Words n) → list_of f ≡ word_rows f.first_column (f.end_column - f.first_column) f.colour f.mask f.first_row (f.end_row - f.first_row)
    words_list s = ap encode_all (plan_words f (some_mask f [] s.0 s.1) s.3) ∙ words_bytes f (asked_sound f s.0)

    pub answer_words : Says f (Words n) → shape_answer (Words n) ≡ measure_call f
    unfolding shape_answer
    answer_words s =
        let w = words_closed f (asked_sound f s.0) in
        let l = word_bytes_length f.first_column (f.end_column - f.first_column) f.colour f.mask f.first_row (f.end_row - f.first_row) in
        answers (13 * n) n s.0
        (ap length (words_list s) ∙ omega (arith, l, w, s.2))
        (ap length (plan_words f (some_mask f [] s.0 s.1) s.3) ∙ length-map (covered_words f) (word_write f) ∙ sym s.2)

    pub blocks_list : (s : Says f (Blocks n)) → list_of f ≡ block_bytes f [] s.0 s.1 (across f)
    blocks_list s =
        ap encode_all (plan_blocks f (some_mask f [] s.0 s.1) s.3) ∙ blocks_bytes f (asked_sound f s.0) (some_columns f [] s.0 s.1)

    pub answer_blocks : Says f (Blocks n) → shape_answer (Blocks n) ≡ measure_call f
    unfolding shape_answer
    answer_blocks s =
        let b = blocks_closed f (asked_sound f s.0) (some_columns f [] s.0 s.1) in
        let g = columns_in f.first_column f.end_column (f.first_column / 4) in
        let h = columns_in f.first_column f.end_column (f.first_column / 4 + (across f - 1)) in
        let l = block_bytes_length (f.first_column / 4) g h f.mask (across f) f.first_row (f.end_row - f.first_row) in
        let k = length-map (touched_blocks f) (block_write f) in
        answers (6 + 13 * n) (1 + n) s.0
        (ap length (blocks_list s) ∙ omega (arith, l, b, s.2))
        (ap length (plan_blocks f (some_mask f [] s.0 s.1) s.3) ∙ omega (arith, k, s.2))

    -- the numbers are small
    pub words_most : Says f (Words n) → n ≤ 262144
    words_most s =
        let o = asked_sound f s.0 in
        let h : f.end_row - f.first_row ≤ 512 = omega (arith, o.row_end, o.rows_most) in
        let w : f.end_column - f.first_column ≤ 512 = omega (arith, o.column_end) in
        omega (arith, s.2, words_closed f o, mul-le-mul h w)

    pub blocks_most : Says f (Blocks n) → n ≤ 65536
    blocks_most s =
        let o = asked_sound f s.0 in
        let h : f.end_row - f.first_row ≤ 512 = omega (arith, o.row_end, o.rows_most) in
        let w : across f ≤ 128 = omega (arith, o.column_end) in
        omega (arith, s.2, blocks_closed f o (some_columns f [] s.0 s.1), mul-le-mul h w)

  pub shape_most : (s : Shape) → Says f s → shape_size s ≤ 262144
  shape_most (Refused number) h = omega arith
  shape_most Nothing h = omega arith
  shape_most (Words words) h = words_most words h
  shape_most (Blocks blocks) h = omega (arith, blocks_most blocks h)

pub shape_answers : (f : Fill) → shape_answer (shape_of f) ≡ measure_call f
shape_answers f = go (shape_of f) (shape_says f)
  where
    go : (s : Shape) → Says f s → shape_answer s ≡ measure_call f
    go (Refused number) h = answer_refused f number h
    go Nothing h = answer_nothing f 0 h
    go (Words words) h = answer_words f words h
    go (Blocks blocks) h = answer_blocks f blocks h

-- ---- what is measured: the number, and where it is 0 the list's length and its number of cycles

module _ (f : Fill) where
  pub measure_number : (measure_call f).number ≡ asked_refusal f
  unfolding measure_call
  measure_number = refl

  module _ (z : (measure_call f).number ≡ 0) where
    pub measure_bytes : (measure_call f).bytes ≡ length (list_of f)
    unfolding measure_call
    measure_bytes = leaves_made (asked_refusal f) 0 (length (list_of f)) z

    pub measure_cycles : (measure_call f).cycles ≡ length (plan f)
    unfolding measure_call
    measure_cycles = leaves_made (asked_refusal f) 0 (length (plan f)) z

-- ---- a fill that is put: of its shape, which the code has, so many bytes and cycles are counted

module _ (f : Fill) (out : List ℕ) (s : Shape) (known : s ≡ shape_of f) (bytes cycles : ℕ) (counted : filled 0 bytes cycles ≡ shape_answer s) where
  put_measured : filled 0 bytes cycles ≡ measure_call f
  put_measured = counted ∙ ap shape_answer known ∙ shape_answers f

  put_number : (measure_call f).number ≡ 0
  put_number = sym (ap (λ (r : Filled). r.number) put_measured)

  put_asked : asked_refusal f ≡ 0
  put_asked = sym (measure_number f) ∙ put_number

  put_bytes : bytes ≡ length (list_of f)
  put_bytes = ap (λ (r : Filled). r.bytes) put_measured ∙ measure_bytes f put_number

  put_cycles : cycles ≡ length (plan f)
  put_cycles = ap (λ (r : Filled). r.cycles) put_measured ∙ measure_cycles f put_number

  -- no room for it
  pub put_short : (n : ℕ) → n ≡ refuse (leb bytes (length out)) 15 0 → n ≢ 0 → outcome (filled n 0 0) out ≡ fill_call f out
  put_short n e h =
      refuses (list_of f) (length (plan f)) out n h
      ∙ ap (λ (x : ℕ). fill_answer x (list_of f) (length (plan f)) out) (e ∙ ap (λ (x : ℕ). refuse (leb x (length out)) 15 0) put_bytes)
      ∙ sym (fill_stores f out put_asked)

  module _ (e : 0 ≡ refuse (leb bytes (length out)) 15 0) where
    pub put_room : length (list_of f) ≤ length out
    put_room = omega (arith, leb-true bytes (length out) (refuse_zero (leb bytes (length out)) 14 0 (sym e)).0, put_bytes)

    pub put_done : (new : List ℕ) → new ≡ sets out 0 (list_of f) → outcome (filled 0 bytes cycles) new ≡ fill_call f out
    put_done new h = stored_done (list_of f) (length (plan f)) out bytes cycles new put_bytes put_cycles put_room h ∙ sym (fill_stores f out put_asked)

-- nothing to put
pub nothing_list : (f : Fill) → Says f Nothing → list_of f ≡ []
nothing_list f s = ap encode_all (plan_empty f [] s.0 s.1) ∙ encode_none

-- ---- the colour is not asked about

pub measure_any : (rows first_row end_row first_column end_column mask colour persistent : ℕ)
    → measure_call (fill rows first_row end_row first_column end_column mask 0 persistent)
    ≡ measure_call (fill rows first_row end_row first_column end_column mask colour persistent)
unfolding shape_of asked_refusal inside touched
measure_any rows first_row end_row first_column end_column mask colour persistent =
    sym (shape_answers (fill rows first_row end_row first_column end_column mask 0 persistent))
    ∙ shape_answers (fill rows first_row end_row first_column end_column mask colour persistent)

-- ---- the colour is not asked about: s is the shape that the code has, and t the one that it has matched

pub says_any : (rows first_row end_row first_column end_column mask colour persistent : ℕ) (s t : Shape)
    → s ≡ shape_of (fill rows first_row end_row first_column end_column mask 0 persistent) → s ≡ t
    → Says (fill rows first_row end_row first_column end_column mask colour persistent) t
unfolding shape_of asked_refusal inside touched
says_any rows first_row end_row first_column end_column mask colour persistent s t e g =
    let f = fill rows first_row end_row first_column end_column mask colour persistent in
    subst (Says f) (sym e ∙ g) (shape_says f)
