-- Laws of the first marked row from a row on. Assumes nothing.
use Rattle.std.specs.Prelude.{◌≡◌, Bool, true, cond, List, get_or}
use Rattle.std.proofs.Math.Path.{refl, ap}
use Rattle.std.proofs.Common.{sym, ◌∙◌, true≢false, add-zero, ℕ, zero, suc, ◌+◌, ◌/◌, ◌%◌, ◌^◌, ◌≤◌, ◌<◌, arith, eq-eqb, ne_eqb}
use Rattle.std.proofs.Math.Bool.{false}
use Rattle.std.proofs.Math.Decide.{dec_le, dec_lt}
use Rattle.words.specs.Bit.{bit}
use Rattle.words.specs.BitLaws.{bit_shr, bit_none}
use Rattle.std.specs.Prelude.{Option}
use Rattle.std.specs.Prelude.Option.{None, Some}
use Rattle.marks.specs.Marks.{is_marked, first_marked, Least}

module _ (marks : List ℕ) where
  -- ---- row by row

  pub first_none : (r : ℕ) → first_marked marks r 0 ≡ None
  unfolding first_marked
  first_none r = refl

  pub first_marked_is : (r n : ℕ) → is_marked marks r ≡ true → first_marked marks r (suc n) ≡ Some r
  unfolding first_marked
  first_marked_is r n h = rw h

  first_past : (r n : ℕ) → is_marked marks r ≡ false → first_marked marks r (suc n) ≡ first_marked marks (suc r) n
  unfolding first_marked
  first_past r n h = rw h

  -- rows that are not marked are passed over
  pub first_skip : (k r n : ℕ) → ((j : ℕ) → j < k → is_marked marks (r + j) ≡ false) → first_marked marks r (k + n) ≡ first_marked marks (r + k) n
  first_skip zero r n h = let e : 0 + n ≡ n = omega arith in rw (e, add-zero r)
  first_skip (suc k) r n h =
      let e : suc k + n ≡ suc (k + n) = omega arith in
      let f : suc r + k ≡ r + suc k = omega arith in
      ap (first_marked marks r) e
      ∙ first_past r (k + n) (ap (is_marked marks) (sym (add-zero r)) ∙ h 0 (omega arith))
      ∙ first_skip k (suc r) n (λ j l. let g : suc r + j ≡ r + suc j = omega arith in ap (is_marked marks) g ∙ h (suc j) (omega arith))
      ∙ ap (λ (x : ℕ). first_marked marks x n) f

  -- ---- what is found is the least marked row, and none is found exactly where none is marked

  pub first_least : (n r : ℕ) → Least marks r (r + n) (first_marked marks r n)
  unfolding first_marked
  first_least zero r = λ q h k. absurd (omega arith)
  first_least (suc n) r = go (is_marked marks r) refl (first_marked marks (suc r) n) (first_least n (suc r))
    where
      -- r itself, or a row after it
      later : is_marked marks r ≡ false → (s : ℕ) → ((q : ℕ) → suc r ≤ q → q < s → is_marked marks q ≡ false)
          → (q : ℕ) → r ≤ q → q < s → is_marked marks q ≡ false
      later e s f q h k = elim (dec_le q r) [
        | yes z ↦ let g : q ≡ r = omega arith in ap (is_marked marks) g ∙ e
        | no z ↦ f q (omega arith) k
      ]

      go : (t : Bool) → is_marked marks r ≡ t → (f : Option ℕ) → Least marks (suc r) (suc r + n) f → Least marks r (r + suc n) (cond t (Some r) f)
      go true e f l = (omega arith, omega arith, e, λ q h k. absurd (omega arith))
      go false e None l = λ q h k. later e (suc r + n) l q h (omega arith)
      go false e (Some s) l = (omega (arith, l.0), omega (arith, l.1), l.2, later e s l.3)

  -- no two differ that are least: so what is least is found, and none where no row is marked
  one_least : (r end : ℕ) (f g : Option ℕ) → Least marks r end f → Least marks r end g → f ≡ g
  one_least r end None None h k = refl
  one_least r end None (Some t) h k = absurd (true≢false (sym k.2 ∙ h t k.0 k.1))
  one_least r end (Some s) None h k = absurd (true≢false (sym h.2 ∙ k s h.0 h.1))
  one_least r end (Some s) (Some t) h k = elim (dec_lt s t) [
    | yes l ↦ absurd (true≢false (sym h.2 ∙ k.3 s h.0 l))
    | no m ↦ elim (dec_lt t s) [
      | yes l ↦ absurd (true≢false (sym k.2 ∙ h.3 t k.0 l))
      | no o ↦ let e : s ≡ t = omega arith in ap (λ (x : ℕ). Some x) e
    ]
  ]

  pub first_only : (n r : ℕ) (f : Option ℕ) → Least marks r (r + n) f → first_marked marks r n ≡ f
  first_only n r f l = one_least r (r + n) (first_marked marks r n) f (first_least n r) l

  -- ---- one byte

  -- what is left of a byte from a row's bit on
  abbrev pub left_of : ℕ → ℕ
  left_of r = get_or marks (r / 8) 0 / 2 ^ (r % 8)

  pub left_marked : (r : ℕ) → left_of r % 2 ≡ 1 → is_marked marks r ≡ true
  unfolding is_marked bit
  left_marked r e = eq-eqb (left_of r % 2) 1 e

  pub left_unmarked : (r : ℕ) → (left_of r % 2 ≡ 1 → ⊥) → is_marked marks r ≡ false
  unfolding is_marked bit
  left_unmarked r n = ne_eqb (left_of r % 2) 1 n

  -- where it is 0, no row of the byte from there on is marked
  pub left_none : (r j : ℕ) → left_of r ≡ 0 → r % 8 + j < 8 → is_marked marks (r + j) ≡ false
  unfolding is_marked
  left_none r j e h =
      let p : (r + j) / 8 ≡ r / 8 = omega arith in
      let q : (r + j) % 8 ≡ r % 8 + j = omega arith in
      rw (p, q) (sym (bit_shr (get_or marks (r / 8) 0) (r % 8) j) ∙ ap (λ (n : ℕ). bit n j) e ∙ bit_none j)
