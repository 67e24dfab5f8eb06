-- Laws of column masks: what the code's shifts give, and the column mask of a block in its row. Assumes nothing.
use Rattle.std.specs.Prelude.{ℕ, zero, suc, ◌+◌, ◌*◌, ◌/◌, ◌%◌, ◌^◌, ◌<◌, ◌≡◌, refl, Bool, true, false, ◌&&◌, eqb}
use Rattle.std.proofs.Common.{sym, ap, ◌∙◌, arith, eqb-true}
use Rattle.std.specs.Int.Bits.{bit_or}
use Rattle.std.proofs.lemmas.Bool.{eqb-false}
use Rattle.words.specs.Bit.{bit, digit, of_bits}
use Rattle.words.specs.BitLaws.{bit_of_bits, of_bits_cong}
use Rattle.numbers.specs.Between.{between, both}
use Rattle.planner.specs.Bytes.{columns_in}

-- ---- four bits in all four quads, by shifts: one test over the sixteen numbers

abbrev all_below : ℕ → (ℕ → Bool) → Bool
all_below zero p = true
all_below (suc n) p = p n && all_below n p

below : (n : ℕ) (p : ℕ → Bool) → all_below n p ≡ true → (x : ℕ) → x < n → p x ≡ true
below zero p e x h = absurd (omega arith)
below (suc n) p e x h = go (eqb x n) refl (below n p (both (p n) (all_below n p) e).1 x)
  where
    go : (t : Bool) → eqb x n ≡ t → (x < n → p x ≡ true) → p x ≡ true
    go true q f = ap p (eqb-true x n q) ∙ (both (p n) (all_below n p) e).0
    go false q f = let z = eqb-false x n q in f (omega arith)

-- in the top quad, in the upper two, in all four
abbrev top : ℕ → ℕ
top n = n * 2 ^ 12 % 2 ^ 16

abbrev upper : ℕ → ℕ
upper n = bit_or (top n) (top n / 2 ^ 4)

abbrev pub shifted : ℕ → ℕ
shifted n = bit_or (upper n) (upper n / 2 ^ 8)

shifts_test : all_below 16 (λ n. eqb (shifted n) (of_bits 16 (λ b. bit n (b % 4)))) ≡ true
unfolding bit of_bits
shifts_test = refl

pub quads_shifts : (columns : ℕ) → columns < 16 → shifted columns ≡ of_bits 16 (λ b. bit columns (b % 4))
quads_shifts columns h = eqb-true _ _ (below 16 (λ n. eqb (shifted n) (of_bits 16 (λ b. bit n (b % 4)))) shifts_test columns h)

-- ---- the four bits of a block

abbrev four : ℕ → ℕ → ℕ → ℕ
four lo hi k = of_bits 4 (λ j. between lo hi (4 * k + j))

four_is : (lo hi k a b c d : ℕ) → a ≡ digit (between lo hi (4 * k)) → b ≡ digit (between lo hi (4 * k + 1)) → c ≡ digit (between lo hi (4 * k + 2))
    → d ≡ digit (between lo hi (4 * k + 3)) → a + 2 * b + 4 * c + 8 * d ≡ four lo hi k
unfolding of_bits
four_is lo hi k a b c d p q r s =
    let z : 4 * k + 0 ≡ 4 * k = omega arith in
    let e : a ≡ digit (between lo hi (4 * k + 0)) = p ∙ ap (λ (x : ℕ). digit (between lo hi x)) (sym z) in
    omega (arith, e, q, r, s)

-- and its column mask
pub columns_is : (lo hi k a b c d r : ℕ) → a ≡ digit (between lo hi (4 * k)) → b ≡ digit (between lo hi (4 * k + 1)) → c ≡ digit (between lo hi (4 * k + 2))
    → d ≡ digit (between lo hi (4 * k + 3)) → r ≡ of_bits 16 (λ i. bit (a + 2 * b + 4 * c + 8 * d) (i % 4)) → r ≡ columns_in lo hi k
unfolding columns_in
columns_is lo hi k a b c d r p q s t e =
    e
    ∙ ap (λ (n : ℕ). of_bits 16 (λ i. bit n (i % 4))) (four_is lo hi k a b c d p q s t)
    ∙ of_bits_cong 16 (λ i. bit (four lo hi k) (i % 4)) (λ i. between lo hi (4 * k + i % 4)) (λ i h. bit_of_bits 4 (λ j. between lo hi (4 * k + j)) (i % 4) (omega arith))
