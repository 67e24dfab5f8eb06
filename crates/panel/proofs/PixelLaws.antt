-- The rule of pixels: computed, and case by case: the mark, the result, the result in reverse. Assumes nothing.
use Rattle.std.specs.Prelude.{◌≡◌, refl, Bool, true, false, not, ◌&&◌, List, [], ◌∷◌, map, ◌≢◌, ℕ, ◌-◌, ◌%◌, ◌^◌, ◌<◌}
use Rattle.std.proofs.Common.{sym, ap, ◌∙◌, mod-lt, lt_of_le_of_lt, arith, eq-eqb, ne_eqb}
use Rattle.std.specs.Int.Bits.{bit_and, and_zero_l}
use Rattle.std.proofs.lemmas.Nat.{and_le_l}
use Rattle.words.specs.Bit.{bit, of_bits}
use Rattle.words.specs.BitLaws.{of_bits_unique, bits_eq, bit_of_and, bit_not, bit_of_bits}
use Rattle.words.specs.Word.{high}
use Rattle.words.specs.WordLaws.{high_is}
use Rattle.panel.specs.Panel.{inverted, pixel, panel_of, entry_of}

-- ---- computed: two results, three marks, three results in reverse

abbrev eight : List ℕ
eight = 0x0000 ∷ 0x00A5 ∷ 0x01A5 ∷ 0x80A5 ∷ 0xFEFF ∷ 0xFF00 ∷ 0xFFA5 ∷ 0xFFFF ∷ []

pub pixel_example : map pixel eight ≡ 0x00 ∷ 0xA5 ∷ 0x01 ∷ 0x80 ∷ 0xFE ∷ 0xFF ∷ 0x5A ∷ 0x00 ∷ []
unfolding pixel inverted high bit of_bits
pixel_example = refl

-- through a pixel mask of 0F: the mark 80 becomes 0 and does not fall to its result, and FFFF shows entry 0
pub entry_example : (parts : ℕ → ℕ) → map (entry_of (panel_of parts 0x0F [])) eight ≡ 0x0 ∷ 0x5 ∷ 0x1 ∷ 0x0 ∷ 0xE ∷ 0xF ∷ 0xA ∷ 0x0 ∷ []
unfolding pixel inverted high bit of_bits
entry_example parts = refl

-- ---- a byte inverted

-- each of the eight bits is the other one
pub inverted_bit : (byte b : ℕ) → b < 8 → bit (inverted byte) b ≡ not (bit byte b)
unfolding inverted
inverted_bit byte = bit_of_bits 8 (λ b. not (bit byte b))

-- and as a number
pub inverted_is : (byte : ℕ) → byte < 256 → inverted byte ≡ 255 - byte
unfolding inverted
inverted_is byte h = sym (of_bits_unique 8 (255 - byte) (λ b. not (bit byte b)) (omega arith) (λ b l. bit_not 8 byte b h l))

-- ---- the three cases

module _ (word : ℕ) where
  pub the_result : high word ≡ 0 → pixel word ≡ word % 256
  unfolding pixel
  the_result e = rw (eq-eqb (high word) 0 e)

  -- whatever the result
  pub the_mark : high word ≢ 0 → high word ≢ 255 → pixel word ≡ high word
  unfolding pixel
  the_mark h k = rw (ne_eqb (high word) 0 h, ne_eqb (high word) 255 k)

  pub the_result_in_reverse : high word ≡ 255 → pixel word ≡ inverted (word % 256)
  unfolding pixel
  the_result_in_reverse e = rw e

  -- which is, as a number
  pub reverse_is : high word ≡ 255 → pixel word ≡ 255 - word % 256
  reverse_is e = the_result_in_reverse e ∙ inverted_is (word % 256) (mod-lt word (omega arith))

-- words with the same mark have the same pixel, whatever their results
pub mark_alone : (v w : ℕ) → high v ≡ high w → high v ≢ 0 → high v ≢ 255 → pixel v ≡ pixel w
mark_alone v w e h k = the_mark v h k ∙ e ∙ sym (the_mark w (λ z. h (e ∙ z)) (λ z. k (e ∙ z)))

-- ---- the entry that is shown in reverse

-- alike the other way, so alike
either_way : (p q r : Bool) → (not p && r) ≡ (not q && r) → (p && r) ≡ (q && r)
either_way true true r e = refl
either_way false false r e = refl
either_way true false true e = sym e
either_way true false false e = refl
either_way false true true e = sym e
either_way false true false e = refl

module _ (parts : ℕ → ℕ) (mask : ℕ) (table : List ℕ) where
  -- inverted first, and masked then
  pub entry_in_reverse : (word : ℕ) → high word ≡ 255 → entry_of (panel_of parts mask table) word ≡ bit_and (inverted (word % 256)) mask
  entry_in_reverse word e = ap (λ (n : ℕ). bit_and n mask) (the_result_in_reverse word e)

  -- so FFFF shows entry 0
  pub all_ones : entry_of (panel_of parts mask table) 0xFFFF ≡ 0
  all_ones = entry_in_reverse 0xFFFF (high_is 0xFFFF) ∙ ap (λ (n : ℕ). bit_and n mask) (inverted_is 255 (omega arith)) ∙ and_zero_l mask

  -- an upright result names itself, masked
  entry_upright : (word : ℕ) → entry_of (panel_of parts mask table) (word % 256) ≡ bit_and (word % 256) mask
  entry_upright word =
      let e : pixel (word % 256) ≡ word % 256 = the_result (word % 256) (high_is (word % 256) ∙ (omega arith)) ∙ (omega arith) in
      ap (λ (n : ℕ). bit_and n mask) e

  -- the old result is as legible as it was: results that name one entry in reverse name one entry upright too, whatever the pixel mask
  pub as_legible : (v w : ℕ) → high v ≡ 255 → high w ≡ 255 → entry_of (panel_of parts mask table) v ≡ entry_of (panel_of parts mask table) w
      → entry_of (panel_of parts mask table) (v % 256) ≡ entry_of (panel_of parts mask table) (w % 256)
  as_legible v w e f g =
      entry_upright v
      ∙ bits_eq 8 (bit_and (v % 256) mask) (bit_and (w % 256) mask) (small v) (small w)
      (λ b h. bit_of_and (v % 256) mask b
      ∙ either_way (bit (v % 256) b) (bit (w % 256) b) (bit mask b) (sym (bit_shown v e b h) ∙ ap (λ (n : ℕ). bit n b) g ∙ bit_shown w f b h)
      ∙ sym (bit_of_and (w % 256) mask b))
      ∙ sym (entry_upright w)
    where
      small : (x : ℕ) → bit_and (x % 256) mask < 2 ^ 8
      small x = lt_of_le_of_lt (and_le_l (x % 256) mask) (mod-lt x (omega arith))

      bit_shown : (x : ℕ) → high x ≡ 255 → (b : ℕ) → b < 8 → bit (entry_of (panel_of parts mask table) x) b ≡ (not (bit (x % 256) b) && bit mask b)
      bit_shown x z b h =
          ap (λ (n : ℕ). bit n b) (entry_in_reverse x z)
          ∙ bit_of_and (inverted (x % 256)) mask b
          ∙ ap (λ (t : Bool). t && bit mask b) (inverted_bit (x % 256) b h)
