-- Laws of the call: what refuses it, and what it stores. Assumes nothing.
use Rattle.std.specs.Prelude.{ℕ, ◌+◌, ◌-◌, ◌*◌, ◌/◌, ◌≤◌, ◌<◌, ◌≡◌, refl, Bool, true, false, ◌&&◌, ◌||◌, List, [], ◌∷◌, ◌++◌, map, ◌≢◌, eqb, leb, length}
use Rattle.std.proofs.Math.Path.{sym, ap}
use Rattle.std.proofs.Common.{ap₂, ◌∙◌, subst, true≢false, arith, mul-zero, zero-mul, eqb-true, eq-eqb, leb-true, le-leb}
use Rattle.std.proofs.lemmas.List.{length-map}
use Rattle.std.proofs.lemmas.List.Edits.{sets}
use Rattle.std.proofs.lemmas.Bool.{eqb-false, lt-leb}
use Rattle.numbers.specs.Refuse.{refuse, first_of}
use Rattle.numbers.specs.RefuseLaws.{refuse_zero, first_of_first, first_of_later, leaves_before}
use Rattle.numbers.specs.Between.{both}
use Rattle.numbers.specs.Buffer.{over}
use Rattle.numbers.specs.BufferLaws.{over_sets}
use Rattle.list.specs.Encode.{encode_all}
use Rattle.list.proofs.EncodedLaws.{encode_none}
use Rattle.planner.specs.declared.Filled.{Filled}
use Rattle.planner.specs.Fill.{Fill, fill, covered_words, touched_blocks, W, B, word_write, block_write, by_words, by_blocks, plan}
use Rattle.planner.proofs.FillLaws.{Sound, across, words_closed, blocks_closed, plan_nothing, plan_words, plan_blocks}
use Rattle.planner.specs.Bytes.{word_rows, load_bytes, columns_in, block_rows}
use Rattle.planner.proofs.PlanLaws.{words_bytes, blocks_bytes}
use Rattle.planner.specs.Calls.{rows_ok, rectangle_ok, plain_ok, room_ok, fill_refusal, asked_refusal, list_of, outcome, fill_answer, stored, fill_call}

-- ---- 2, 12 and 13

-- mask and colour are not asked about
pub asked_any : (rows first_row end_row first_column end_column mask colour persistent n : ℕ)
    → n ≡ asked_refusal (fill rows first_row end_row first_column end_column 0 0 persistent)
    → n ≡ asked_refusal (fill rows first_row end_row first_column end_column mask colour persistent)
unfolding asked_refusal
asked_any rows first_row end_row first_column end_column mask colour persistent n e = e

-- what is asked is refused first, and then the buffer may refuse
pub asked_first : (f : Fill) (room : ℕ) → fill_refusal f room ≡ first_of (asked_refusal f) (refuse (room_ok f room) 15 0)
unfolding fill_refusal asked_refusal
asked_first f room = go (rows_ok f) (rectangle_ok f) (plain_ok f)
  where
    go : (a b c : Bool) → refuse a 2 (refuse b 12 (refuse c 13 (refuse (room_ok f room) 15 0))) ≡ first_of (refuse a 2 (refuse b 12 (refuse c 13 0))) (refuse (room_ok f room) 15 0)
    go true true true = refl
    go true true false = refl
    go true false c = refl
    go false b c = refl

-- with rows that can be and not persistent it is 12 or nothing
pub asked_plain : (f : Fill) → 1 ≤ f.rows → f.rows ≤ 512 → f.persistent ≡ 0 → asked_refusal f ≡ refuse (rectangle_ok f) 12 0
unfolding asked_refusal
asked_plain f l m e = rw (le-leb 1 f.rows l, le-leb f.rows 512 m, eq-eqb f.persistent 0 e)

-- a rectangle that is not refused
pub asked_sound : (f : Fill) → asked_refusal f ≡ 0 → Sound f
unfolding asked_refusal
asked_sound f e =
    let p = refuse_zero (rows_ok f) 1 _ e in
    let q = refuse_zero (rectangle_ok f) 11 _ p.1 in
    let r = both (leb 1 f.rows) (leb f.rows 512) p.0 in
    let a = both ((leb f.first_row f.end_row && leb f.first_column f.end_column) && leb f.end_column 512) (leb f.end_row f.rows) q.0 in
    let b = both (leb f.first_row f.end_row && leb f.first_column f.end_column) (leb f.end_column 512) a.0 in
    let c = both (leb f.first_row f.end_row) (leb f.first_column f.end_column) b.0 in
    record {
      rows_least = leb-true 1 f.rows r.0;
      rows_most = leb-true f.rows 512 r.1;
      row_order = leb-true f.first_row f.end_row c.0;
      column_order = leb-true f.first_column f.end_column c.1;
      column_end = leb-true f.end_column 512 b.1;
      row_end = leb-true f.end_row f.rows a.1;
    }

-- ---- a list into a buffer

abbrev pub filled : ℕ → ℕ → ℕ → Filled
filled n bytes cycles = record { number = n; bytes = bytes; cycles = cycles }

module _ (bytes : List ℕ) (cycles : ℕ) (out : List ℕ) where
  pub refuses : (n : ℕ) → n ≢ 0 → outcome (filled n 0 0) out ≡ fill_answer n bytes cycles out
  refuses n h = sym (rw (leaves_before n 0 (length bytes) h, leaves_before n 0 cycles h, leaves_before n out (over bytes out) h))

  pub stored_short : length out < length bytes → outcome (filled 15 0 0) out ≡ stored bytes cycles out
  stored_short h = rw (lt-leb (length bytes) (length out) h)

  pub stored_done : (n k : ℕ) (new : List ℕ) → n ≡ length bytes → k ≡ cycles → length bytes ≤ length out → new ≡ sets out 0 bytes
      → outcome (filled 0 n k) new ≡ stored bytes cycles out
  stored_done n k new e f h g =
      ap₂ (λ (x y : ℕ). outcome (filled 0 x y) new) e f
      ∙ ap (outcome (filled 0 (length bytes) cycles)) (g ∙ over_sets bytes out h)
      ∙ sym (rw (le-leb (length bytes) (length out) h))

-- ---- the call

module _ (f : Fill) (out : List ℕ) where
  -- a refusal answers zeros and writes nothing
  pub fill_refused : fill_refusal f (length out) ≢ 0 → fill_call f out ≡ outcome (filled (fill_refusal f (length out)) 0 0) out
  unfolding fill_call
  fill_refused h = sym (refuses (list_of f) (length (plan f)) out (fill_refusal f (length out)) h)

  -- 2, 12 or 13
  pub fill_refuses : (n : ℕ) → n ≡ asked_refusal f → n ≢ 0 → outcome (filled n 0 0) out ≡ fill_call f out
  unfolding fill_call
  fill_refuses n e h =
      refuses (list_of f) (length (plan f)) out n h
      ∙ ap (λ (x : ℕ). fill_answer x (list_of f) (length (plan f)) out)
      (e ∙ sym (asked_first f (length out) ∙ first_of_first (asked_refusal f) (refuse (room_ok f (length out)) 15 0) (λ z. h (e ∙ z))))

  module _ (z : asked_refusal f ≡ 0) where
    pub fill_stores : fill_call f out ≡ stored (list_of f) (length (plan f)) out
    unfolding fill_call
    fill_stores =
        ap (λ (x : ℕ). fill_answer x (list_of f) (length (plan f)) out) (asked_first f (length out) ∙ first_of_later (asked_refusal f) (refuse (room_ok f (length out)) 15 0) z)

    -- with room enough it stores its list
    pub fill_fits : length (list_of f) ≤ length out → fill_call f out ≡ outcome (filled 0 (length (list_of f)) (length (plan f))) (over (list_of f) out)
    fill_fits h = fill_stores ∙ rw (le-leb (length (list_of f)) (length out) h)

    s : Sound f
    s = asked_sound f z

    stores : (bytes : List ℕ) (cycles : ℕ) → list_of f ≡ bytes → length (plan f) ≡ cycles → stored bytes cycles out ≡ fill_call f out
    stores bytes cycles e g = ap₂ (λ (x : List ℕ) (y : ℕ). stored x y out) (sym e) (sym g) ∙ sym fill_stores

    -- nothing to paint: M is 0, or there is no row or no column
    empty_plan : f.mask ≢ 0 → (f.end_row - f.first_row) * (f.end_column - f.first_column) ≡ 0 → plan f ≡ []
    empty_plan n e =
        let w : W f ≡ 0 = words_closed f s ∙ e in
        plan_words f n (omega arith) ∙ ap (map (word_write f)) (none (covered_words f) w)
      where
        none : (l : List ℕ) → length l ≡ 0 → l ≡ []
        none [] h = refl
        none (x ∷ l) h = absurd (omega arith)

    pub plan_empty : ((eqb f.mask 0 || eqb (f.end_row - f.first_row) 0) || eqb (f.end_column - f.first_column) 0) ≡ true → plan f ≡ []
    plan_empty e = go (eqb f.mask 0) (eqb (f.end_row - f.first_row) 0) refl refl e
      where
        go : (t u : Bool) → eqb f.mask 0 ≡ t → eqb (f.end_row - f.first_row) 0 ≡ u → ((t || u) || eqb (f.end_column - f.first_column) 0) ≡ true → plan f ≡ []
        go true u p q e = plan_nothing f (eqb-true _ _ p)
        go false true p q e = empty_plan (eqb-false _ _ p) (ap (λ (x : ℕ). x * (f.end_column - f.first_column)) (eqb-true _ _ q) ∙ zero-mul (f.end_column - f.first_column))
        go false false p q e =
            empty_plan (eqb-false _ _ p) (ap (λ (x : ℕ). (f.end_row - f.first_row) * x) (eqb-true _ _ e) ∙ mul-zero (f.end_row - f.first_row))

    pub fill_nothing : ((eqb f.mask 0 || eqb (f.end_row - f.first_row) 0) || eqb (f.end_column - f.first_column) 0) ≡ true
        → outcome (filled 0 0 0) out ≡ fill_call f out
    fill_nothing e =
        stored_done [] 0 out 0 0 out refl refl (omega arith) refl
        ∙ stores [] 0 (ap encode_all (plan_empty e) ∙ encode_none) (ap length (plan_empty e))

    -- something to paint
    module _ (e : ((eqb f.mask 0 || eqb (f.end_row - f.first_row) 0) || eqb (f.end_column - f.first_column) 0) ≡ false) where
      pub some_mask : f.mask ≢ 0
      some_mask = go (eqb f.mask 0) refl e
        where
          go : (t : Bool) → eqb f.mask 0 ≡ t → ((t || eqb (f.end_row - f.first_row) 0) || eqb (f.end_column - f.first_column) 0) ≡ false → f.mask ≢ 0
          go true p q = absurd (true≢false q)
          go false p q = eqb-false _ _ p

      pub some_columns : f.first_column < f.end_column
      some_columns = let n = eqb-false (f.end_column - f.first_column) 0 (go (eqb f.mask 0 || eqb (f.end_row - f.first_row) 0) e) in omega arith
        where
          go : (t : Bool) → (t || eqb (f.end_column - f.first_column) 0) ≡ false → eqb (f.end_column - f.first_column) 0 ≡ false
          go true q = absurd (true≢false q)
          go false q = q

      pub fill_words : W f ≤ 1 + B f
          → stored (word_rows f.first_column (f.end_column - f.first_column) f.colour f.mask f.first_row (f.end_row - f.first_row))
          ((f.end_row - f.first_row) * (f.end_column - f.first_column)) out
          ≡ fill_call f out
      fill_words h =
          let x : plan f ≡ by_words f = plan_words f some_mask h in
          stores (word_rows f.first_column (f.end_column - f.first_column) f.colour f.mask f.first_row (f.end_row - f.first_row))
          ((f.end_row - f.first_row) * (f.end_column - f.first_column))
          (ap encode_all x ∙ words_bytes f s)
          (ap length x ∙ length-map (covered_words f) (word_write f) ∙ words_closed f s)

      -- the list's bytes, with n blocks in a row
      abbrev pub block_bytes : ℕ → List ℕ
      block_bytes n =
          load_bytes f.colour
          ++ block_rows (f.first_column / 4) (columns_in f.first_column f.end_column (f.first_column / 4)) (columns_in f.first_column f.end_column (f.first_column / 4 + (n - 1)))
          f.mask n f.first_row (f.end_row - f.first_row)

      pub fill_blocks : 1 + B f < W f → (n : ℕ) → n ≡ across f → stored (block_bytes n) (1 + (f.end_row - f.first_row) * n) out ≡ fill_call f out
      fill_blocks h n e =
          let x : plan f ≡ by_blocks f = plan_blocks f some_mask h in
          let l : length (map (block_write f) (touched_blocks f)) ≡ B f = length-map (touched_blocks f) (block_write f) in
          subst (λ (k : ℕ). stored (block_bytes k) (1 + (f.end_row - f.first_row) * k) out ≡ fill_call f out) (sym e)
          (stores (block_bytes (across f)) (1 + (f.end_row - f.first_row) * across f)
          (ap encode_all x ∙ blocks_bytes f s some_columns)
          (ap length x ∙ omega (arith, blocks_closed f s some_columns)))
