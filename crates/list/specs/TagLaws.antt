-- What the tag table comes to, tag by tag. Assumes nothing.
use Rattle.std.specs.Prelude.{◌≡◌, refl, Bool, true, false, ◌&&◌, ◌||◌, cond, List, ◌≢◌, eqb, leb}
use Rattle.std.proofs.Math.Path.{sym}
use Rattle.std.proofs.Common.{ap, ◌∙◌, true≢false, ℕ, zero, suc, ◌≤◌, ◌<◌, arith, leb-true, le-leb, ne_eqb, eqb-true}
use borrow.Author.Tests.{lt-leb}
use Rattle.numbers.specs.Between.{both}
use Rattle.refusals.specs.Refusal.{write_refusal, load_refusal, full_refusal, split_refusal, stop_refusal}
use Rattle.vram.specs.declared.Cycle.TheVariants.{WordWrite, BlockWrite}
use Rattle.vram.specs.Refusal.{refusal}
use Rattle.vram.specs.Kinds.{tag_of, loads}
use Rattle.list.specs.Tags.{byte, word, known, len_of, cycle_of}
use Rattle.vram.proofs.CaseLaws.{refusal_word, refusal_block, refusal_colour, refusal_mask, refusal_reset, refusal_full, refusal_split, refusal_stop, tag_word, tag_block, tag_colour, tag_mask, tag_reset, tag_full, tag_split, tag_stop, loads_tag}

-- a body has at most ten bytes
pub len_most : (t : ℕ) → len_of t ≤ 10
unfolding len_of
len_most t = go (leb t 2) (leb t 4) (eqb t 5) (leb t 7)
  where
    go : (p q r s : Bool) → cond p 10 (cond q 3 (cond r 0 (cond s 4 1))) ≤ 10
    go true q r s = omega arith
    go false true r s = omega arith
    go false false true s = omega arith
    go false false false true = omega arith
    go false false false false = omega arith

pub len_write : (t : ℕ) → t < 3 → len_of t ≡ 10
unfolding len_of
len_write t h = rw (le-leb t 2 (omega arith))

pub len_load : (t : ℕ) → 3 ≤ t → t < 5 → len_of t ≡ 3
unfolding len_of
len_load t h k = rw (lt-leb t 2 (omega arith), le-leb t 4 (omega arith))

pub len_transfer : (t : ℕ) → 6 ≤ t → t < 8 → len_of t ≡ 4
unfolding len_of
len_transfer t h k =
    let n : t ≢ 5 = λ e. omega arith in
    rw (lt-leb t 2 (omega arith), lt-leb t 4 (omega arith), ne_eqb t 5 n, le-leb t 7 (omega arith))

pub len_stop : (t : ℕ) → t ≡ 9 → len_of t ≡ 1
unfolding len_of
len_stop t e = rw e

-- ---- a tag that is known is none of 0, and 1 and 2 are the writes

pub known_some : (t : ℕ) → known t ≡ true → 1 ≤ t
unfolding known
known_some zero h = absurd (true≢false (sym h))
known_some (suc t) h = omega arith

pub cycle_one : (b : List ℕ) → cycle_of 1 b ≡ WordWrite (word b 0) (word b 2) (word b 4) (byte b 6) (word b 7) (byte b 9)
unfolding cycle_of
cycle_one b = refl

pub cycle_two : (b : List ℕ) → cycle_of 2 b ≡ BlockWrite (word b 0) (word b 2) (word b 4) (byte b 6) (word b 7) (byte b 9)
unfolding cycle_of
cycle_two b = refl

-- ---- what refuses the cycle of a body, by its tag

module _ (rows : ℕ) (made : Bool) (b : List ℕ) where
  pub number_write : (t : ℕ) → (leb 1 t && leb t 2) ≡ true
      → write_refusal rows (word b 0) (word b 2) (byte b 6) (word b 7) (byte b 9) ≡ refusal rows made (cycle_of t b)
  unfolding cycle_of
  number_write zero h = absurd (true≢false (sym h))
  number_write (suc zero) h = sym (refusal_word rows made (word b 0) (word b 2) (word b 4) (byte b 6) (word b 7) (byte b 9))
  number_write (suc (suc zero)) h = sym (refusal_block rows made (word b 0) (word b 2) (word b 4) (byte b 6) (word b 7) (byte b 9))
  number_write (suc (suc (suc t))) h =
      let n = suc (suc (suc t)) in
      absurd (omega (arith, leb-true n 2 (both (leb 1 n) (leb n 2) h).1))

  pub number_load : (t : ℕ) → 3 ≤ t → t < 5 → load_refusal (byte b 2) ≡ refusal rows made (cycle_of t b)
  unfolding cycle_of
  number_load zero p q = absurd (omega arith)
  number_load (suc zero) p q = absurd (omega arith)
  number_load (suc (suc zero)) p q = absurd (omega arith)
  number_load (suc (suc (suc zero))) p q = sym (refusal_colour rows made (word b 0) (byte b 2))
  number_load (suc (suc (suc (suc zero)))) p q = sym (refusal_mask rows made (word b 0) (byte b 2))
  number_load (suc (suc (suc (suc (suc t))))) p q = absurd (omega arith)

  pub number_full : (t : ℕ) → t ≡ 6 → full_refusal rows (word b 0) (byte b 2) ≡ refusal rows made (cycle_of t b)
  unfolding cycle_of
  number_full t e = rw e (sym (refusal_full rows made (word b 0) (byte b 2) (byte b 3)))

  pub number_split : (t : ℕ) → t ≡ 7 → split_refusal rows made (word b 0) (byte b 2) (byte b 3) ≡ refusal rows made (cycle_of t b)
  unfolding cycle_of
  number_split t e = rw e (sym (refusal_split rows made (word b 0) (byte b 2) (byte b 3)))

  pub number_stop : (t : ℕ) → t ≡ 9 → stop_refusal (byte b 0) ≡ refusal rows made (cycle_of t b)
  unfolding cycle_of
  number_stop t e = rw e (sym (refusal_stop rows made (byte b 0)))

  pub number_none : (t : ℕ) → (leb 1 t && leb t 2) ≡ false → t < 3 → 0 ≡ refusal rows made (cycle_of t b)
  unfolding cycle_of
  number_none zero h p = sym (refusal_reset rows made)
  number_none (suc zero) h p = absurd (true≢false h)
  number_none (suc (suc zero)) h p = absurd (true≢false h)
  number_none (suc (suc (suc t))) h p = absurd (omega arith)

  pub number_reset : (t : ℕ) → 5 ≤ t → t ≢ 6 → t ≢ 7 → t ≢ 9 → 0 ≡ refusal rows made (cycle_of t b)
  unfolding cycle_of
  number_reset t p q r s =
      let n : t ≢ 1 = λ e. omega arith in
      let m : t ≢ 2 = λ e. omega arith in
      let k : t ≢ 3 = λ e. omega arith in
      let l : t ≢ 4 = λ e. omega arith in
      rw (ne_eqb t 1 n, ne_eqb t 2 m, ne_eqb t 3 k, ne_eqb t 4 l, ne_eqb t 6 q, ne_eqb t 7 r, ne_eqb t 9 s) (sym (refusal_reset rows made))

-- ---- the cycle of a body has the body's tag

tag_within : (b : List ℕ) (t : ℕ) → 1 ≤ t → t ≤ 7 → tag_of (cycle_of t b) ≡ t
unfolding cycle_of
tag_within b zero p q = absurd (omega arith)
tag_within b (suc zero) p q = tag_word (word b 0) (word b 2) (word b 4) (byte b 6) (word b 7) (byte b 9)
tag_within b (suc (suc zero)) p q = tag_block (word b 0) (word b 2) (word b 4) (byte b 6) (word b 7) (byte b 9)
tag_within b (suc (suc (suc zero))) p q = tag_colour (word b 0) (byte b 2)
tag_within b (suc (suc (suc (suc zero)))) p q = tag_mask (word b 0) (byte b 2)
tag_within b (suc (suc (suc (suc (suc zero))))) p q = tag_reset
tag_within b (suc (suc (suc (suc (suc (suc zero)))))) p q = tag_full (word b 0) (byte b 2) (byte b 3)
tag_within b (suc (suc (suc (suc (suc (suc (suc zero))))))) p q = tag_split (word b 0) (byte b 2) (byte b 3)
tag_within b (suc (suc (suc (suc (suc (suc (suc (suc t)))))))) p q = absurd (omega arith)

tag_nine : (b : List ℕ) (t : ℕ) → t ≡ 9 → tag_of (cycle_of t b) ≡ t
unfolding cycle_of
tag_nine b t e = rw e (tag_stop (byte b 0))

pub cycle_tag : (t : ℕ) (b : List ℕ) → known t ≡ true → tag_of (cycle_of t b) ≡ t
unfolding known
cycle_tag t b = go (leb 1 t && leb t 7) refl
  where
    go : (u : Bool) → (leb 1 t && leb t 7) ≡ u → (u || eqb t 9) ≡ true → tag_of (cycle_of t b) ≡ t
    go true e h = let k = both (leb 1 t) (leb t 7) e in tag_within b t (leb-true 1 t k.0) (leb-true t 7 k.1)
    go false e h = tag_nine b t (eqb-true t 9 h)

-- so that only tag 6 counts as a full transfer made
pub cycle_loads : (t : ℕ) (b : List ℕ) (made : Bool) → known t ≡ true → loads (cycle_of t b) made ≡ (made || eqb t 6)
cycle_loads t b made h = loads_tag (cycle_of t b) made ∙ ap (λ (x : ℕ). made || eqb x 6) (cycle_tag t b h)
