-- The rule of parts: computed, and what the widening keeps. Assumes nothing.
use Rattle.std.specs.Prelude.{◌≡◌, refl, List, [], ◌∷◌, map, ℕ, ◌+◌, ◌*◌, ◌/◌, ◌%◌, ◌<◌}
use Rattle.std.proofs.Common.{sym, ap, ap₂, ◌∙◌, arith}
use Rattle.words.specs.Bit.{bit}
use Rattle.words.specs.BitLaws.{bit_shr, bit_mod}
use Rattle.palette.specs.Table.{Colour, colour, gives}
use Rattle.panel.specs.declared.Width.{Width}
use Rattle.panel.specs.declared.Width.TheVariants.{Six, Eight}
use Rattle.panel.specs.Panel.{widened, unwidened, part_at, panel_of, entry_of, shaded, colour_of}

-- ---- computed: the ends, and both sides of each step of v/16

pub widened_example : map widened (0 ∷ 1 ∷ 15 ∷ 16 ∷ 31 ∷ 32 ∷ 47 ∷ 48 ∷ 62 ∷ 63 ∷ []) ≡ 0 ∷ 4 ∷ 60 ∷ 65 ∷ 125 ∷ 130 ∷ 190 ∷ 195 ∷ 251 ∷ 255 ∷ []
unfolding widened
widened_example = refl

-- ---- each rule by its width and as a number

pub widened_is : (six : ℕ) → widened six ≡ 4 * six + six / 16
unfolding widened
widened_is six = refl

pub unwidened_is : (six : ℕ) → unwidened six ≡ six
unfolding unwidened
unwidened_is six = refl

pub six_rule : part_at Six ≡ unwidened
unfolding part_at
six_rule = refl

pub eight_rule : part_at Eight ≡ widened
unfolding part_at
eight_rule = refl

pub at_six : (six : ℕ) → part_at Six six ≡ six
at_six six = ap (λ (f : ℕ → ℕ). f six) six_rule ∙ unwidened_is six

pub at_eight : (six : ℕ) → part_at Eight six ≡ 4 * six + six / 16
at_eight six = ap (λ (f : ℕ → ℕ). f six) eight_rule ∙ widened_is six

-- a part is a byte at every width
pub part_byte : (w : Width) (six : ℕ) → six < 64 → part_at w six < 256
part_byte Six six h = omega (arith, at_six six)
part_byte Eight six h = omega (arith, at_eight six)

-- ---- the widening

pub widened_none : widened 0 ≡ 0
widened_none = widened_is 0

pub widened_full : widened 63 ≡ 255
widened_full = widened_is 63

-- order is kept
pub widened_order : (v w : ℕ) → v < w → widened v < widened w
widened_order v w h = omega (arith, widened_is v, widened_is w)

-- different parts stay different
pub widened_apart : (v w : ℕ) → widened v ≡ widened w → v ≡ w
widened_apart v w e = omega (arith, widened_is v, widened_is w)

module _ (six : ℕ) (h : six < 64) where
  -- the top six bits are the part
  pub widened_top : widened six / 4 ≡ six
  widened_top = omega (arith, widened_is six)

  -- and the low two its own top two
  pub widened_low : widened six % 4 ≡ six / 16
  widened_low = omega (arith, widened_is six)

  -- bit by bit
  pub widened_top_bit : (b : ℕ) → bit (widened six) (2 + b) ≡ bit six b
  widened_top_bit b = sym (bit_shr (widened six) 2 b) ∙ ap (λ (n : ℕ). bit n b) widened_top

  pub widened_low_bit : (b : ℕ) → b < 2 → bit (widened six) b ≡ bit six (4 + b)
  widened_low_bit b l = sym (bit_mod (widened six) 2 b l) ∙ ap (λ (n : ℕ). bit n b) widened_low ∙ bit_shr six 4 b

-- ---- colours

-- no two colours fall together
pub colours_apart : (c d : Colour) → shaded widened c ≡ shaded widened d → c ≡ d
colours_apart c d e =
    let r = widened_apart c.red d.red (ap (λ (x : Colour). x.red) e) in
    let g = widened_apart c.green d.green (ap (λ (x : Colour). x.green) e) in
    let b = widened_apart c.blue d.blue (ap (λ (x : Colour). x.blue) e) in
    ap (λ (n : ℕ). colour n c.green c.blue) r ∙ ap₂ (λ (m n : ℕ). colour d.red m n) g b

-- so words that show two colours in six bits show two in eight
pub shown_apart : (mask : ℕ) (table : List ℕ) (v w : ℕ) → colour_of (panel_of widened mask table) v ≡ colour_of (panel_of widened mask table) w
    → colour_of (panel_of unwidened mask table) v ≡ colour_of (panel_of unwidened mask table) w
unfolding colour_of
shown_apart mask table v w e =
    ap (shaded unwidened)
    (colours_apart (gives table (entry_of (panel_of widened mask table) v)) (gives table (entry_of (panel_of widened mask table) w)) e)
