-- What the code computes of words is what the definitions say. Assumes nothing.
use Rattle.std.specs.Prelude.{◌≡◌, refl, Bool, true, false, not, ◌&&◌, ◌||◌, cond, ℕ, zero, suc, ◌+◌, ◌-◌, ◌*◌, ◌/◌, ◌%◌, ◌^◌, ◌<◌, leb}
use Rattle.std.proofs.Common.{sym, ap, ap₂, ◌∙◌, subst, mod-lt, lt_of_le_of_lt, add_comm, arith, lit<, pow_pos}
use Rattle.std.proofs.Math.Bool.{or-false}
use Rattle.std.specs.Int.Bits.{bit_and, bit_or}
use Rattle.std.proofs.lemmas.Nat.{and_le_l, or_lt}
use Rattle.words.specs.Bit.{bit, of_bits}
use Rattle.words.specs.BitLaws.{bit_mod, bit_of_and, bit_of_or, bit_not, bit_shl, bit_shr, of_bits_unique, bit_of_bits, of_bits_lt, of_bits_cong}
use Rattle.words.specs.Word.{merged, covers, lets}
use Rattle.words.specs.WordLaws.{merged_is}

-- ---- `(old & !allow) | (new & allow)`

pick_table : (w p q : Bool) → ((q && not w) || (p && w)) ≡ cond w p q
pick_table true true true = refl
pick_table true true false = refl
pick_table true false true = refl
pick_table true false false = refl
pick_table false true true = refl
pick_table false true false = refl
pick_table false false true = refl
pick_table false false false = refl

pub merge_law : (old new allow : ℕ) → old < 2 ^ 16 → new < 2 ^ 16 → allow < 2 ^ 16
    → bit_or (bit_and old ((2 ^ 16 - 1) - allow)) (bit_and new allow) ≡ merged old new (bit allow)
merge_law old new allow ho hn ha =
    merged_is old new (bit allow) (bit_or (bit_and old ((2 ^ 16 - 1) - allow)) (bit_and new allow))
    (or_lt 16 (bit_and old ((2 ^ 16 - 1) - allow)) (bit_and new allow) (lt_of_le_of_lt (and_le_l old ((2 ^ 16 - 1) - allow)) ho)
    (lt_of_le_of_lt (and_le_l new allow) hn))
    (λ b h. bit_of_or (bit_and old ((2 ^ 16 - 1) - allow)) (bit_and new allow) b
    ∙ ap₂ ◌||◌ (bit_of_and old ((2 ^ 16 - 1) - allow) b ∙ ap (λ (t : Bool). bit old b && t) (bit_not 16 allow b ha h)) (bit_of_and new allow b)
    ∙ pick_table (bit allow b) (bit new b) (bit old b))

-- ---- two masks joined

pub joined : (s t : ℕ) (v : ℕ → Bool) → s ≡ of_bits 16 v → bit_and s t ≡ of_bits 16 (λ b. v b && bit t b)
joined s t v e =
    of_bits_unique 16 (bit_and s t) (λ b. v b && bit t b)
    (lt_of_le_of_lt (and_le_l s t) (subst (λ (n : ℕ). n < 2 ^ 16) (sym e) (of_bits_lt 16 v)))
    (λ b l. bit_of_and s t b ∙ ap (λ (x : ℕ). bit x b && bit t b) e ∙ ap (λ (p : Bool). p && bit t b) (bit_of_bits 16 v b l))

-- ---- the strobes: only the two low bits count

pub strobes_low : (s n : ℕ) → s % 4 ≡ n → of_bits 16 (covers n) ≡ of_bits 16 (covers s)
unfolding covers
strobes_low s n e =
    of_bits_cong 16 (λ b. bit n (b / 8)) (λ b. bit s (b / 8)) (λ b h. ap (λ (x : ℕ). bit x (b / 8)) (sym e) ∙ bit_mod s 2 (b / 8) (omega arith))

-- ---- the column mask: bit j of each quad, spread over its quad by four copies, each shifted by one more

abbrev firsts : ℕ → ℕ → ℕ
firsts columns j = bit_and 0x1111 (columns / 2 ^ j)

abbrev spread : ℕ → ℕ
spread t = bit_or (bit_or (bit_or t (t * 2 ^ 1 % 2 ^ 16)) (t * 2 ^ 2 % 2 ^ 16)) (t * 2 ^ 3 % 2 ^ 16)

-- the bit that the copy shifted by i has at b
abbrev copy : ℕ → ℕ → ℕ → ℕ → Bool
copy columns j b i = bit 0x1111 (b - i) && bit columns (j + (b - i))

abbrev copies : ℕ → ℕ → ℕ → Bool
copies columns j b =
    (((bit 0x1111 b && bit columns (j + b)) || (leb 1 b && copy columns j b 1)) || (leb 2 b && copy columns j b 2)) || (leb 3 b && copy columns j b 3)

spread_bit : (columns j b : ℕ) → b < 16 → bit (spread (firsts columns j)) b ≡ copies columns j b
spread_bit columns j b h = simp (bit_of_or, bit_shl, bit_of_and, bit_shr)

or_false² : (p : Bool) → ((p || false) || false) ≡ p
or_false² p = or-false (p || false) ∙ or-false p

or_false³ : (p : Bool) → (((p || false) || false) || false) ≡ p
or_false³ p = or_false² (p || false) ∙ or-false p

-- what holds at 0 to 3
abbrev Four : (ℕ → Type 0) → Type 0
Four P = P 0 × P 1 × P 2 × P 3

four : (P : ℕ → Type 0) → Four P → (i : ℕ) → i < 4 → P i
four P p zero h = p.0
four P p (suc zero) h = p.1
four P p (suc (suc zero)) h = p.2
four P p (suc (suc (suc zero))) h = p.3
four P p (suc (suc (suc (suc i)))) h = absurd (omega arith)

-- what holds at each place of four quads holds below 16
sixteen : (P : ℕ → Type 0) → Four (λ q. Four (λ i. P (4 * q + i))) → (b : ℕ) → b < 16 → P b
sixteen P p b h =
    let e : 4 * (b / 4) + b % 4 ≡ b = omega arith in
    subst P e (four (λ i. P (4 * (b / 4) + i)) (four (λ q. Four (λ i. P (4 * q + i))) p (b / 4) (omega arith)) (b % 4) (omega arith))

-- of the four copies all but one are false at b, where b is written out
one_copy : (columns j : ℕ) → Four (λ q. Four (λ i. copies columns j (4 * q + i) ≡ bit columns (j + 4 * ((4 * q + i) / 4))))
unfolding bit
one_copy columns j = (
  (or_false³ _, or_false² _, or-false _, refl),
  (or_false³ _, or_false² _, or-false _, refl),
  (or_false³ _, or_false² _, or-false _, refl),
  (or_false³ _, or_false² _, or-false _, refl),
)

spread_lt : (t : ℕ) → t < 2 ^ 16 → spread t < 2 ^ 16
spread_lt t h =
    or_lt 16 _ _ (or_lt 16 _ _ (or_lt 16 _ _ h (mod-lt (t * 2 ^ 1) (pow_pos 16))) (mod-lt (t * 2 ^ 2) (pow_pos 16))) (mod-lt (t * 2 ^ 3) (pow_pos 16))

pub column_law : (columns j : ℕ) → spread (firsts columns j) ≡ of_bits 16 (lets columns j)
unfolding lets
column_law columns j =
    of_bits_unique 16 (spread (firsts columns j)) (lets columns j)
    (spread_lt (firsts columns j) (lt_of_le_of_lt (and_le_l 0x1111 (columns / 2 ^ j)) (lit< tt)))
    (λ b h. spread_bit columns j b h
    ∙ sixteen (λ b. copies columns j b ≡ bit columns (j + 4 * (b / 4))) (one_copy columns j) b h
    ∙ ap (bit columns) (add_comm j (4 * (b / 4))))
