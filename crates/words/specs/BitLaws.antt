-- The laws of `bit`: of and, or, xor, shifts, a remainder, a complement; a number is given by its bits. Assumes nothing.
use Rattle.std.specs.Prelude.{◌≡◌, refl, Bool, true, false, not, ◌&&◌, ◌||◌, ℕ, zero, suc, ◌+◌, ◌-◌, ◌*◌, ◌/◌, ◌%◌, ◌^◌, ◌≤◌, ◌<◌, leb}
use Rattle.std.proofs.Common.{sym, ap₂, ◌∙◌, subst, mod-lt, div-add-mod', mod-eq_of_lt, pow-suc, one-mul, mul_assoc, arith, add-one, pow-add, shr-shr, shr_lt, eq-eqb, ne_eqb, leb-true, leb-false}
use Rattle.std.proofs.Math.Path.{ap}
use Rattle.std.proofs.Math.Nat.{div-eq_of_lt}
use Rattle.std.proofs.Math.Dec.{eqb}
use Rattle.std.specs.Int.Bits.{bit_and, bit_or, bit_xor, xor_add_and, shifted_even}
use Rattle.std.proofs.lemmas.Nat.{and_shr, or_shr, xor_shr, and_mod, or_mod, xor_mod, and_mask, shl-shr}
use Rattle.std.proofs.Math.Arith.{lt-one, digits_mod, digits_div}
use Rattle.std.proofs.Math.Pow.{pow-lt, high, low, field, mod-mod-pow, ones_split, ones_lt}
use Rattle.words.specs.Bit.{bit, digit, of_bits}

-- ---- 0 or 1

two : (P : ℕ → Type 0) → P 0 → P 1 → (x : ℕ) → x < 2 → P x
two P p q zero h = p
two P p q (suc zero) h = q
two P p q (suc (suc x)) h = absurd (omega arith)

pub odd_digit : (x : ℕ) → digit (eqb (x % 2) 1) ≡ x % 2
odd_digit x = two (λ (y : ℕ). digit (eqb y 1) ≡ y) refl refl (x % 2) (mod-lt x (omega arith))

-- a yes or no as a number, there and back
pub yes_or_no : (n : ℕ) → n ≤ 1 → digit (not (eqb n 0)) ≡ n
yes_or_no n h = two (λ (y : ℕ). digit (not (eqb y 0)) ≡ y) refl refl n (omega arith)

pub digit_yes : (p : Bool) → not (eqb (digit p) 0) ≡ p
digit_yes true = refl
digit_yes false = refl

pub digit_small : (p : Bool) → leb (digit p) 1 ≡ true
digit_small true = refl
digit_small false = refl

-- ---- a bit by division

pub bit_is : (n b : ℕ) → bit n b ≡ eqb (n / 2 ^ b % 2) 1
unfolding bit
bit_is n b = refl

-- ---- an operation on digits

module _ (op : ℕ → ℕ → ℕ) (f : Bool → Bool → Bool)
    (shr : (a b k : ℕ) → op a b / 2 ^ k ≡ op (a / 2 ^ k) (b / 2 ^ k))
    (rem : (a b k : ℕ) → op a b % 2 ^ k ≡ op (a % 2 ^ k) (b % 2 ^ k))
    (table : (p q : Bool) → eqb (op (digit p) (digit q)) 1 ≡ f p q) where
  odd_op : (x y : ℕ) → eqb (op x y % 2) 1 ≡ f (eqb (x % 2) 1) (eqb (y % 2) 1)
  odd_op x y =
      ap (λ (n : ℕ). eqb n 1) (rem x y 1 ∙ ap₂ op (sym (odd_digit x)) (sym (odd_digit y)))
      ∙ table (eqb (x % 2) 1) (eqb (y % 2) 1)

  bit_op : (a b k : ℕ) → bit (op a b) k ≡ f (bit a k) (bit b k)
  unfolding bit
  bit_op a b k = ap (λ (n : ℕ). eqb (n % 2) 1) (shr a b k) ∙ odd_op (a / 2 ^ k) (b / 2 ^ k)

abbrev pub unequal : Bool → Bool → Bool
unequal true q = not q
unequal false q = q

and_table : (p q : Bool) → eqb (bit_and (digit p) (digit q)) 1 ≡ (p && q)
and_table true true = refl
and_table true false = refl
and_table false q = refl

or_table : (p q : Bool) → eqb (bit_or (digit p) (digit q)) 1 ≡ (p || q)
or_table true true = refl
or_table true false = refl
or_table false true = refl
or_table false false = refl

xor_table : (p q : Bool) → eqb (bit_xor (digit p) (digit q)) 1 ≡ unequal p q
xor_table true true = refl
xor_table true false = refl
xor_table false true = refl
xor_table false false = refl

pub bit_of_and : (a b k : ℕ) → bit (bit_and a b) k ≡ (bit a k && bit b k)
bit_of_and = bit_op bit_and ◌&&◌ and_shr and_mod and_table

pub bit_of_or : (a b k : ℕ) → bit (bit_or a b) k ≡ (bit a k || bit b k)
bit_of_or = bit_op bit_or ◌||◌ or_shr or_mod or_table

pub bit_of_xor : (a b k : ℕ) → bit (bit_xor a b) k ≡ unequal (bit a k) (bit b k)
bit_of_xor = bit_op bit_xor unequal xor_shr xor_mod xor_table

-- ---- shifts and remainders

-- `n >> j`
pub bit_shr : (n j b : ℕ) → bit (n / 2 ^ j) b ≡ bit n (j + b)
unfolding bit
bit_shr n j b = ap (λ (x : ℕ). eqb (x % 2) 1) (shr-shr n j b)

-- a remainder keeps the bits below k: k is i + 1 + b
mod_keeps : (n i b : ℕ) → bit (n % 2 ^ (i + 1 + b)) b ≡ bit n b
unfolding bit
mod_keeps n i b = ap (λ (x : ℕ). eqb (x % 2) 1) (field n (i + 1) b) ∙ ap (λ (x : ℕ). eqb x 1) (mod-mod-pow (n / 2 ^ b) i 1)

above : {b k : ℕ} → b < k → (k - (b + 1)) + 1 + b ≡ k
above h = omega arith

pub bit_mod : (n k b : ℕ) → b < k → bit (n % 2 ^ k) b ≡ bit n b
bit_mod n k b h = subst (λ (m : ℕ). bit (n % 2 ^ m) b ≡ bit n b) (above h) (mod_keeps n (k - (b + 1)) b)

-- n times 2 ^ j, before the remainder
pub bit_mul_high : (n j b : ℕ) → j ≤ b → bit (n * 2 ^ j) b ≡ bit n (b - j)
unfolding bit
bit_mul_high n j b h =
    let e : j + (b - j) ≡ b = omega arith in
    ap (λ (x : ℕ). eqb (x % 2) 1) (ap (λ (m : ℕ). n * 2 ^ j / 2 ^ m) (sym e) ∙ sym (shr-shr (n * 2 ^ j) j (b - j)) ∙ ap (λ (x : ℕ). x / 2 ^ (b - j)) (shl-shr n j))

mul_low : (n i b : ℕ) → bit (n * 2 ^ (suc i + b)) b ≡ false
unfolding bit
mul_low n i b =
    ap (λ (x : ℕ). eqb (x % 2) 1)
    (ap (λ (x : ℕ). n * x / 2 ^ b) (pow-add 2 (suc i) b) ∙ ap (λ (x : ℕ). x / 2 ^ b) (sym (mul_assoc n (2 ^ suc i) (2 ^ b))) ∙ shl-shr (n * 2 ^ suc i) b)
    ∙ ap (λ (x : ℕ). eqb x 1) (shifted_even n i)

pub bit_mul_low : (n j b : ℕ) → b < j → bit (n * 2 ^ j) b ≡ false
bit_mul_low n j b h =
    let e : suc (j - (b + 1)) + b ≡ j = omega arith in
    subst (λ (m : ℕ). bit (n * 2 ^ m) b ≡ false) e (mul_low n (j - (b + 1)) b)

-- `n << j` in w bits
pub bit_shl : (n j w b : ℕ) → b < w → bit (n * 2 ^ j % 2 ^ w) b ≡ (leb j b && bit n (b - j))
bit_shl n j w b h = bit_mod (n * 2 ^ j) w b h ∙ go (leb j b) refl
  where
    go : (t : Bool) → leb j b ≡ t → bit (n * 2 ^ j) b ≡ (t && bit n (b - j))
    go true e = bit_mul_high n j b (leb-true j b e)
    go false e = bit_mul_low n j b (leb-false j b e)

-- ---- all ones, and the complement

ones_at : (i b : ℕ) → bit (2 ^ (i + 1 + b) - 1) b ≡ true
unfolding bit
ones_at i b =
    ap (λ (x : ℕ). eqb (x % 2) 1) (ap (λ (x : ℕ). x / 2 ^ b) (ones_split (i + 1) b) ∙ high (2 ^ (i + 1) - 1) b (ones_lt b))
    ∙ ap (λ (x : ℕ). eqb (x % 2) 1) (ones_split i 1)
    ∙ ap (λ (x : ℕ). eqb x 1) (low (2 ^ i - 1) 1 (ones_lt 1))

pub bit_ones : (k b : ℕ) → b < k → bit (2 ^ k - 1) b ≡ true
bit_ones k b h = subst (λ (m : ℕ). bit (2 ^ m - 1) b ≡ true) (above h) (ones_at (k - (b + 1)) b)

-- the complement is an exclusive or with ones
not_xor : (k a : ℕ) → a < 2 ^ k → (2 ^ k - 1) - a ≡ bit_xor a (2 ^ k - 1)
not_xor k a h = omega (arith, xor_add_and a (2 ^ k - 1), and_mask a k, mod-eq_of_lt h)

unequal_true : (p : Bool) → unequal p true ≡ not p
unequal_true true = refl
unequal_true false = refl

-- `!a` in k bits
pub bit_not : (k a b : ℕ) → a < 2 ^ k → b < k → bit ((2 ^ k - 1) - a) b ≡ not (bit a b)
bit_not k a b ha hb = ap (λ (n : ℕ). bit n b) (not_xor k a ha) ∙ bit_of_xor a (2 ^ k - 1) b ∙ ap (unequal (bit a b)) (bit_ones k b hb) ∙ unequal_true (bit a b)

-- ---- a number is given by its bits

bit_half : (n b : ℕ) → bit (n / 2) b ≡ bit n (suc b)
bit_half n b = bit_shr n 1 b ∙ ap (bit n) (omega arith)

shr_zero : (n : ℕ) → n / 2 ^ 0 ≡ n
shr_zero n = omega arith

bit_zero : (n : ℕ) → digit (bit n 0) ≡ n % 2
unfolding bit
bit_zero n = ap (λ (x : ℕ). digit (eqb (x % 2) 1)) (shr_zero n) ∙ odd_digit n

pub of_bits_unique : (k n : ℕ) (f : ℕ → Bool) → n < 2 ^ k → ((b : ℕ) → b < k → bit n b ≡ f b) → n ≡ of_bits k f
unfolding of_bits
of_bits_unique zero n f h e = lt-one h
of_bits_unique (suc k) n f h e =
    sym (div-add-mod' n 2)
    ∙ ap₂ (λ (x y : ℕ). x * 2 + y)
    (of_bits_unique k (n / 2) (λ b. f (suc b)) (shr_lt k 1 (subst (λ (m : ℕ). n < 2 ^ m) (sym (add-one k)) h)) (λ b l. bit_half n b ∙ e (suc b) (omega arith)))
    (sym (bit_zero n) ∙ ap digit (e 0 (omega arith)))

-- two numbers of k bits with equal bits are equal
pub bits_eq : (k m n : ℕ) → m < 2 ^ k → n < 2 ^ k → ((b : ℕ) → b < k → bit m b ≡ bit n b) → m ≡ n
bits_eq k m n hm hn e = of_bits_unique k m (bit n) hm e ∙ sym (of_bits_unique k n (bit n) hn (λ b l. refl))

pub of_bits_cong : (k : ℕ) (f g : ℕ → Bool) → ((b : ℕ) → b < k → f b ≡ g b) → of_bits k f ≡ of_bits k g
unfolding of_bits
of_bits_cong zero f g e = refl
of_bits_cong (suc k) f g e =
    ap₂ (λ (x : ℕ) (y : Bool). x * 2 + digit y) (of_bits_cong k (λ b. f (suc b)) (λ b. g (suc b)) (λ b l. e (suc b) (omega arith))) (e 0 (omega arith))

digit_lt : (p : Bool) → digit p < 2
digit_lt true = omega arith
digit_lt false = omega arith

pub of_bits_lt : (k : ℕ) (f : ℕ → Bool) → of_bits k f < 2 ^ k
unfolding of_bits
of_bits_lt zero f = omega arith
of_bits_lt (suc k) f = omega (arith, pow-suc 2 k, of_bits_lt k (λ b. f (suc b)), digit_lt (f 0))

odd_of : (x : ℕ) (p : Bool) → eqb ((x * 2 + digit p) % 2) 1 ≡ p
odd_of x p = ap (λ (y : ℕ). eqb y 1) (digits_mod x (digit_lt p)) ∙ go p
  where
    go : (p : Bool) → eqb (digit p) 1 ≡ p
    go true = refl
    go false = refl

bit_double_zero : (x : ℕ) (p : Bool) → bit (x * 2 + digit p) 0 ≡ p
unfolding bit
bit_double_zero x p = ap (λ (y : ℕ). eqb (y % 2) 1) (shr_zero (x * 2 + digit p)) ∙ odd_of x p

bit_double_suc : (x b : ℕ) (p : Bool) → bit (x * 2 + digit p) (suc b) ≡ bit x b
bit_double_suc x b p = sym (bit_half (x * 2 + digit p) b) ∙ ap (λ (n : ℕ). bit n b) (digits_div x (digit_lt p))

-- the definition means what it says: bit b of `of_bits k f` is f b
pub bit_of_bits : (k : ℕ) (f : ℕ → Bool) (b : ℕ) → b < k → bit (of_bits k f) b ≡ f b
unfolding of_bits
bit_of_bits zero f b h = absurd (omega arith)
bit_of_bits (suc k) f zero h = bit_double_zero (of_bits k (λ b. f (suc b))) (f 0)
bit_of_bits (suc k) f (suc b) h = bit_double_suc (of_bits k (λ b. f (suc b))) b (f 0) ∙ bit_of_bits k (λ b. f (suc b)) b (omega arith)

-- a number of k bits that is not 0 has one that is set
pub some_bit : (k n : ℕ) → n < 2 ^ k → 0 < n → (b : ℕ) × (b < k) × (bit n b ≡ true)
some_bit zero n h p = absurd (omega arith)
some_bit (suc k) n h p = go (bit n 0) refl (λ q. some_bit k (n / 2) (omega (arith, pow-suc 2 k)) q)
  where
    go : (t : Bool) → bit n 0 ≡ t → (0 < n / 2 → (b : ℕ) × (b < k) × (bit (n / 2) b ≡ true)) → (b : ℕ) × (b < suc k) × (bit n b ≡ true)
    go true e f = (0, omega arith, e)
    go false e f =
        let even : n % 2 ≡ 0 = sym (bit_zero n) ∙ ap digit e in
        let r = f (omega arith) in
        (suc r.0, omega (arith, r.1), sym (bit_half n r.0) ∙ r.2)

-- 0 has none
pub bit_none : (b : ℕ) → bit 0 b ≡ false
unfolding bit
bit_none zero = refl
bit_none (suc b) = sym (bit_half 0 b) ∙ bit_none b

-- a number of k bits has none from k on
pub bit_above : (k n b : ℕ) → n < 2 ^ k → k ≤ b → bit n b ≡ false
bit_above k n b h l =
    let e : k + (b - k) ≡ b = omega arith in
    ap (bit n) (sym e) ∙ sym (bit_shr n k (b - k)) ∙ ap (λ (x : ℕ). bit x (b - k)) (div-eq_of_lt h) ∙ bit_none (b - k)

-- ---- a power of two has one bit

bit_one : (j : ℕ) → bit 1 (suc j) ≡ false
unfolding bit
bit_one j = let h : 1 < 2 ^ suc j = pow-lt {i = 0} (omega arith) in rw (div-eq_of_lt h)

pub bit_pow : (k b : ℕ) → bit (2 ^ k) b ≡ eqb b k
unfolding bit
bit_pow k b = ap (λ (n : ℕ). bit n b) (sym (one-mul (2 ^ k))) ∙ go (leb k b) refl
  where
    high : (j : ℕ) → b - k ≡ j → k ≤ b → bit 1 (b - k) ≡ eqb b k
    high zero e h = ap (bit 1) e ∙ sym (eq-eqb b k (omega arith))
    high (suc j) e h = ap (bit 1) e ∙ bit_one j ∙ sym (ne_eqb b k (λ z. omega arith))

    go : (t : Bool) → leb k b ≡ t → bit (1 * 2 ^ k) b ≡ eqb b k
    go true e = bit_mul_high 1 k b (leb-true k b e) ∙ high (b - k) refl (leb-true k b e)
    go false e = let h : b < k = leb-false k b e in bit_mul_low 1 k b h ∙ sym (ne_eqb b k (λ z. omega arith))
