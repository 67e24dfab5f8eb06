-- Laws of one bit, and of sixteen one after the other. Assumes nothing.
use Rattle.std.specs.Prelude.{◌≡◌, Bool, true, ◌&&◌, ◌≢◌, eqb, ltb}
use Rattle.std.proofs.Math.Path.{refl, sym, ap}
use Rattle.std.proofs.Common.{◌∙◌, arith, add-one, eqb-true, lt-ltb, le-ltb, ltb-true, ltb-false, ℕ, zero, suc, ◌+◌, ◌<◌, ◌^◌}
use Rattle.std.proofs.Math.Bool.{false, cond}
use Rattle.std.proofs.lemmas.Bool.{eqb-false}
use Rattle.words.specs.Bit.{bit}
use Rattle.words.specs.BitLaws.{of_bits_unique, bit_of_bits, of_bits_lt}
use Rattle.words.specs.Word.{merged, covers, lets}
use Rattle.words.specs.WordLaws.{merged_is}
use Rattle.pencil.specs.Bits.{with_bit, bit_by_bit, takes, written, stays, bits_left}

-- ---- one bit

module _ (word b : ℕ) (set : Bool) where
  -- bit b becomes what it is made, every other bit stays
  pub with_bit_is : (i : ℕ) → i < 16 → bit (with_bit word b set) i ≡ cond (eqb i b) set (bit word i)
  unfolding with_bit
  with_bit_is = bit_of_bits 16 (λ i. cond (eqb i b) set (bit word i))

  pub with_lt : with_bit word b set < 2 ^ 16
  unfolding with_bit
  with_lt = of_bits_lt 16 (λ i. cond (eqb i b) set (bit word i))

  -- and that says which word it is
  pub with_is : (n : ℕ) → n < 2 ^ 16 → ((i : ℕ) → i < 16 → bit n i ≡ cond (eqb i b) set (bit word i)) → n ≡ with_bit word b set
  unfolding with_bit
  with_is n = of_bits_unique 16 n (λ i. cond (eqb i b) set (bit word i))

-- a bit that is made what it was: the word stays
pub with_same : (word b : ℕ) → word < 2 ^ 16 → word ≡ with_bit word b (bit word b)
with_same word b h = with_is word b (bit word b) word h (λ i l. go i (eqb i b) refl)
  where
    go : (i : ℕ) (t : Bool) → eqb i b ≡ t → bit word i ≡ cond t (bit word b) (bit word i)
    go i true e = ap (bit word) (eqb-true i b e)
    go i false e = refl

-- ---- bits one after the other

module _ (rule : ℕ → Bool → Bool) (word : ℕ) where
  -- bit b when those below k are done
  abbrev at : ℕ → ℕ → Bool
  at b k = cond (ltb b k) (rule b (bit word b)) (bit word b)

  decided : (b k : ℕ) (t : Bool) → ltb b k ≡ t → at b k ≡ cond t (rule b (bit word b)) (bit word b)
  decided b k t e = ap (λ (u : Bool). cond u (rule b (bit word b)) (bit word b)) e

  -- bit k is done next: it was as in the word, and no other bit moves
  next_bit : (x k b : ℕ) → b < 16 → bit x b ≡ at b k → bit (with_bit x k (rule k (bit x k))) b ≡ at b (suc k)
  next_bit x k b h e = with_bit_is x k (rule k (bit x k)) b h ∙ go (eqb b k) refl
    where
      other : b ≢ k → (t : Bool) → ltb b k ≡ t → bit x b ≡ at b (suc k)
      other n true l = e ∙ decided b k true l ∙ sym (decided b (suc k) true (lt-ltb b (suc k) (omega (arith, ltb-true b k l))))
      other n false l = e ∙ decided b k false l ∙ sym (decided b (suc k) false (le-ltb b (suc k) (omega (arith, ltb-false b k l))))

      go : (t : Bool) → eqb b k ≡ t → cond t (rule k (bit x k)) (bit x b) ≡ at b (suc k)
      go true l =
          let z : b ≡ k = eqb-true b k l in
          ap (λ (i : ℕ). rule i (bit x i)) (sym z)
          ∙ ap (rule b) (e ∙ decided b k false (le-ltb b k (omega arith)))
          ∙ sym (decided b (suc k) true (lt-ltb b (suc k) (omega arith)))
      go false l = other (eqb-false b k l) (ltb b k) refl

  bits_done : (k b : ℕ) → b < 16 → bit (bit_by_bit rule word k) b ≡ at b k
  unfolding bit_by_bit
  bits_done zero b h = sym (decided b 0 false (le-ltb b 0 (omega arith)))
  bits_done (suc k) b h = next_bit (bit_by_bit rule word k) k b h (bits_done k b h)

  -- one turn more of a loop that holds them so far
  pub bits_turn : (x b y : ℕ) → x ≡ bit_by_bit rule word b → y ≡ with_bit x b (rule b (bit x b)) → y ≡ bit_by_bit rule word (b + 1)
  unfolding bit_by_bit
  bits_turn x b y e f = f ∙ ap (λ (n : ℕ). with_bit n b (rule b (bit n b))) e ∙ ap (bit_by_bit rule word) (sym (add-one b))

  pub bits_start : bit_by_bit rule word 0 ≡ word
  unfolding bit_by_bit
  bits_start = refl

  -- each of the sixteen is what the rule makes of it
  pub all_bits : (b : ℕ) → b < 16 → bit (bit_by_bit rule word 16) b ≡ rule b (bit word b)
  all_bits b h = bits_done 16 b h ∙ decided b 16 true (lt-ltb b 16 h)

  pub all_lt : bit_by_bit rule word 16 < 2 ^ 16
  unfolding bit_by_bit
  all_lt = with_lt (bit_by_bit rule word 15) 15 (rule 15 (bit (bit_by_bit rule word 15) 15))

-- ---- a word write is a merge, where strobes and mask allow it

pub written_merged : (old new mask strobes : ℕ) → written old new mask strobes ≡ merged old new (λ b. covers strobes b && bit mask b)
unfolding written
written_merged old new mask strobes =
    merged_is old new (λ b. covers strobes b && bit mask b) (bit_by_bit (takes new mask strobes) old 16) (all_lt (takes new mask strobes) old)
    (all_bits (takes new mask strobes) old)

-- ---- column j has left bit b of a mask where the column mask lets it through

pub left_bit : (columns j mask b : ℕ) → b < 16 → bit (bits_left columns j mask) b ≡ (lets columns j b && bit mask b)
unfolding bits_left
left_bit columns j mask = all_bits (stays columns j) mask
