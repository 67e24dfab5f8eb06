-- Laws of words: the definitions read bit by bit, and what a merge keeps of a byte. Assumes nothing.
use Rattle.std.specs.Prelude.{◌≡◌, refl, Bool, true, false, cond, ℕ, ◌+◌, ◌*◌, ◌/◌, ◌^◌, ◌≤◌, ◌<◌}
use Rattle.std.proofs.Common.{sym, ap, ap₂, ◌∙◌, arith, shr_lt}
use Rattle.words.specs.Bit.{bit, of_bits}
use Rattle.words.specs.BitLaws.{bit_shr, bit_ones, bit_above, bits_eq, of_bits_unique, bit_of_bits, of_bits_lt, of_bits_cong}
use Rattle.words.specs.Word.{merged, covers, lets, high}

-- ---- a merge, bit by bit

pub merged_lt : (old new : ℕ) (w : ℕ → Bool) → merged old new w < 2 ^ 16
unfolding merged
merged_lt old new w = of_bits_lt 16 (λ b. cond (w b) (bit new b) (bit old b))

-- each bit that must change changes, every other bit stays
pub merged_bit : (old new : ℕ) (w : ℕ → Bool) (b : ℕ) → b < 16 → bit (merged old new w) b ≡ cond (w b) (bit new b) (bit old b)
unfolding merged
merged_bit old new w = bit_of_bits 16 (λ b. cond (w b) (bit new b) (bit old b))

-- and that says which word it is
pub merged_is : (old new : ℕ) (w : ℕ → Bool) (n : ℕ) → n < 2 ^ 16 → ((b : ℕ) → b < 16 → bit n b ≡ cond (w b) (bit new b) (bit old b))
    → n ≡ merged old new w
unfolding merged
merged_is old new w n = of_bits_unique 16 n (λ b. cond (w b) (bit new b) (bit old b))

-- only what w says below 16 counts
pub merged_cong : (old new : ℕ) (v w : ℕ → Bool) → ((b : ℕ) → b < 16 → v b ≡ w b) → merged old new v ≡ merged old new w
unfolding merged
merged_cong old new v w e =
    of_bits_cong 16 (λ b. cond (v b) (bit new b) (bit old b)) (λ b. cond (w b) (bit new b) (bit old b))
    (λ b l. ap (λ (t : Bool). cond t (bit new b) (bit old b)) (e b l))

-- where nothing goes through the old word stays, where all does it is the new one
pub merged_none : (old new : ℕ) (w : ℕ → Bool) → old < 2 ^ 16 → ((b : ℕ) → b < 16 → w b ≡ false) → merged old new w ≡ old
merged_none old new w h e = sym (merged_is old new w old h (λ b l. ap (λ (t : Bool). cond t (bit new b) (bit old b)) (sym (e b l))))

pub merged_all : (old new : ℕ) (w : ℕ → Bool) → new < 2 ^ 16 → ((b : ℕ) → b < 16 → w b ≡ true) → merged old new w ≡ new
merged_all old new w h e = sym (merged_is old new w new h (λ b l. ap (λ (t : Bool). cond t (bit new b) (bit old b)) (sym (e b l))))

-- the same merge again changes nothing
pub merged_again : (old new : ℕ) (w : ℕ → Bool) → merged (merged old new w) new w ≡ merged old new w
merged_again old new w =
    sym (merged_is (merged old new w) new w (merged old new w) (merged_lt old new w)
    (λ b l. merged_bit old new w b l ∙ go (w b) (bit new b) (bit old b) ∙ ap (cond (w b) (bit new b)) (sym (merged_bit old new w b l))))
  where
    go : (t p q : Bool) → cond t p q ≡ cond t p (cond t p q)
    go true p q = refl
    go false p q = refl

-- ---- strobes and column masks

pub covers_is : (strobes b : ℕ) → covers strobes b ≡ bit strobes (b / 8)
unfolding covers
covers_is strobes b = refl

pub lets_is : (columns j b : ℕ) → lets columns j b ≡ bit columns (4 * (b / 4) + j)
unfolding lets
lets_is columns j b = refl

-- both strobes cover every bit
pub covers_both : (b : ℕ) → b < 16 → covers 3 b ≡ true
unfolding covers
covers_both b h = bit_ones 2 (b / 8) (omega arith)

-- the low byte's strobe covers no bit of the high byte
pub covers_low : (b : ℕ) → 8 ≤ b → covers 1 b ≡ false
unfolding covers
covers_low b h = bit_above 1 1 (b / 8) (omega arith) (omega arith)

-- a column mask that is known by its bits
pub lets_bit : (f : ℕ → Bool) (j b : ℕ) → j < 4 → b < 16 → lets (of_bits 16 f) j b ≡ f (4 * (b / 4) + j)
unfolding lets
lets_bit f j b k h = bit_of_bits 16 f (4 * (b / 4) + j) (omega arith)

-- ---- masks that are known by their bits

pub mask_bit : (mask : ℕ) (w : ℕ → Bool) → mask ≡ of_bits 16 w → (b : ℕ) → b < 16 → bit mask b ≡ w b
mask_bit mask w e b h = ap (λ (n : ℕ). bit n b) e ∙ bit_of_bits 16 w b h

pub merged_by_mask : (old new mask : ℕ) (w : ℕ → Bool) → mask ≡ of_bits 16 w → merged old new (bit mask) ≡ merged old new w
merged_by_mask old new mask w e = merged_cong old new (bit mask) w (mask_bit mask w e)

-- ---- the high byte of a merge is given by high bytes

high_bit : (x new : ℕ) (w : ℕ → Bool) (b : ℕ) → b < 8
    → bit (merged x new w / 2 ^ 8) b ≡ cond (w (8 + b)) (bit (new / 2 ^ 8) b) (bit (x / 2 ^ 8) b)
high_bit x new w b h =
    bit_shr (merged x new w) 8 b
    ∙ merged_bit x new w (8 + b) (omega arith)
    ∙ ap₂ (cond (w (8 + b))) (sym (bit_shr new 8 b)) (sym (bit_shr x 8 b))

pub merged_high : (x y u v : ℕ) (w : ℕ → Bool) → high x ≡ high y → high u ≡ high v → high (merged x u w) ≡ high (merged y v w)
unfolding high
merged_high x y u v w e f =
    bits_eq 8 (merged x u w / 2 ^ 8) (merged y v w / 2 ^ 8) (shr_lt 8 8 (merged_lt x u w)) (shr_lt 8 8 (merged_lt y v w))
    (λ b h. high_bit x u w b h ∙ ap₂ (λ (m n : ℕ). cond (w (8 + b)) (bit m b) (bit n b)) f e ∙ sym (high_bit y v w b h))

-- and is the old high byte where no bit of it is let through
merged_low : (x new : ℕ) (w : ℕ → Bool) → x < 2 ^ 16 → ((b : ℕ) → 8 ≤ b → w b ≡ false) → high (merged x new w) ≡ high x
unfolding high
merged_low x new w l h =
    bits_eq 8 (merged x new w / 2 ^ 8) (x / 2 ^ 8) (shr_lt 8 8 (merged_lt x new w)) (shr_lt 8 8 l)
    (λ b k. high_bit x new w b k ∙ ap (λ (t : Bool). cond t (bit (new / 2 ^ 8) b) (bit (x / 2 ^ 8) b)) (h (8 + b) (omega arith)))

-- so a word that is merged or left keeps it
pub low_kept : (t : Bool) (x new : ℕ) (w : ℕ → Bool) → x < 2 ^ 16 → ((b : ℕ) → 8 ≤ b → w b ≡ false) → high (cond t (merged x new w) x) ≡ high x
low_kept true x new w l h = merged_low x new w l h
low_kept false x new w l h = refl

pub high_is : (w : ℕ) → high w ≡ w / 256
unfolding high
high_is w = refl
