-- What the code computes of one bit is what the definitions say. Assumes nothing.
use Rattle.std.specs.Prelude.{◌≡◌, refl, Bool, true, false, not, ◌&&◌, ◌||◌, cond, ℕ, ◌-◌, ◌*◌, ◌%◌, ◌^◌, ◌<◌, eqb}
use Rattle.std.proofs.Common.{ap, ◌∙◌, mod-lt, one-mul, lt_of_le_of_lt, pow_pos}
use Rattle.std.specs.Int.Bits.{bit_and, bit_or}
use Rattle.std.proofs.lemmas.Nat.{and_le_l, or_lt}
use Rattle.words.specs.Bit.{bit}
use Rattle.words.specs.BitLaws.{bit_mod, bit_of_and, bit_of_or, bit_not, bit_pow}
use Rattle.pencil.specs.Bits.{with_bit}
use Rattle.pencil.specs.BitLaws.{with_is}

-- `1 << b`: bit b alone
abbrev alone : ℕ → ℕ
alone b = 1 * 2 ^ b % 2 ^ 16

alone_lt : (b : ℕ) → alone b < 2 ^ 16
alone_lt b = mod-lt (1 * 2 ^ b) (pow_pos 16)

alone_bit : (b i : ℕ) → i < 16 → bit (alone b) i ≡ eqb i b
alone_bit b i h = bit_mod (1 * 2 ^ b) 16 i h ∙ ap (λ (n : ℕ). bit n i) (one-mul (2 ^ b)) ∙ bit_pow b i

or_table : (old at : Bool) → (old || at) ≡ cond at true old
or_table true true = refl
or_table true false = refl
or_table false true = refl
or_table false false = refl

and_table : (old at : Bool) → (old && not at) ≡ cond at false old
and_table true true = refl
and_table true false = refl
and_table false true = refl
and_table false false = refl

module _ (word b : ℕ) (h : word < 2 ^ 16) where
  -- `word | alone`
  pub set_law : bit_or word (alone b) ≡ with_bit word b true
  set_law =
      with_is word b true (bit_or word (alone b)) (or_lt 16 word (alone b) h (alone_lt b))
      (λ i l. bit_of_or word (alone b) i ∙ ap (λ (t : Bool). bit word i || t) (alone_bit b i l) ∙ or_table (bit word i) (eqb i b))

  -- `word & !alone`
  pub clear_law : bit_and word ((2 ^ 16 - 1) - alone b) ≡ with_bit word b false
  clear_law =
      with_is word b false (bit_and word ((2 ^ 16 - 1) - alone b)) (lt_of_le_of_lt (and_le_l word ((2 ^ 16 - 1) - alone b)) h)
      (λ i l. bit_of_and word ((2 ^ 16 - 1) - alone b) i
      ∙ ap (λ (t : Bool). bit word i && t) (bit_not 16 (alone b) i (alone_lt b) l ∙ ap not (alone_bit b i l))
      ∙ and_table (bit word i) (eqb i b))
