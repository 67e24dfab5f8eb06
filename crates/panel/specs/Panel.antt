-- What a run shows: document 01, "A run to the panel", with reverse video by change request M-101 and parts of eight bits by M-108. Assumes
-- nothing.
use Rattle.std.specs.Prelude.{ℕ, ◌+◌, ◌*◌, ◌/◌, ◌%◌, not, cond, List, [], ◌∷◌, eqb, take, drop, replicate}
use Rattle.std.specs.Int.Bits.{bit_and}
use Rattle.words.specs.Bit.{bit, of_bits}
use Rattle.words.specs.Word.{high}
use Rattle.vram.specs.declared.Vram.{Vram}
use Rattle.vram.specs.Serial.{clocked_words}
use Rattle.palette.specs.Table.{Colour, colour, gives}
use Rattle.panel.specs.declared.Panel.{Panel as CodePanel}
use Rattle.panel.specs.declared.Width.{Width}
use Rattle.panel.specs.declared.Width.TheVariants.{Six, Eight}

-- a byte with all eight bits inverted
unfoldable pub inverted : ℕ → ℕ
inverted byte = of_bits 8 (λ b. not (bit byte b))

-- ---- the rules of a panel

-- a word's pixel: its low byte where the high byte is 0, its low byte inverted where the high byte is 255, and else its high byte
unfoldable pub pixel : ℕ → ℕ
pixel word = cond (eqb (high word) 0) (word % 256) (cond (eqb (high word) 255) (inverted (word % 256)) (high word))

-- a six-bit part in eight bits
unfoldable pub widened : ℕ → ℕ
widened six = 4 * six + six / 16

-- a six-bit part as it is
unfoldable pub unwidened : ℕ → ℕ
unwidened six = six

-- the rule of parts, by their width on the panel
unfoldable pub part_at : Width → ℕ → ℕ
part_at Six = unwidened
part_at Eight = widened

-- ---- a panel: which pixel a word shows, what a six-bit part becomes, the pixel mask and the table

pub record Panel : Type 0 where
  pub pixel_of : ℕ → ℕ
  pub part_of : ℕ → ℕ
  pub mask : ℕ
  pub table : List ℕ

-- ours, by its rule of parts
abbrev pub panel_of : (ℕ → ℕ) → ℕ → List ℕ → Panel
panel_of parts mask table = record { pixel_of = pixel; part_of = parts; mask = mask; table = table }

-- the code's
abbrev pub shows : CodePanel → Panel
shows p = panel_of (part_at p.width) p.mask p.table.now

-- the pixel, ANDed with the pixel mask, names the entry shown
abbrev pub entry_of : Panel → ℕ → ℕ
entry_of p word = bit_and (p.pixel_of word) p.mask

-- a colour by a rule of parts
abbrev pub shaded : (ℕ → ℕ) → Colour → Colour
shaded parts c = colour (parts c.red) (parts c.green) (parts c.blue)

unfoldable pub colour_of : Panel → ℕ → Colour
colour_of p word = shaded p.part_of (gives p.table (entry_of p word))

-- three bytes for each word
unfoldable pub bytes_of : Panel → List ℕ → List ℕ
bytes_of p [] = []
bytes_of p (word ∷ rest) = (colour_of p word).red ∷ (colour_of p word).green ∷ (colour_of p word).blue ∷ bytes_of p rest

-- ---- a run of k clocks: the bytes of the words that they answer; zeros where it is blanked

abbrev pub shown : Panel → ℕ → Vram → List ℕ → List ℕ
shown p k s r = bytes_of p (clocked_words k s r)

abbrev pub zeros : ℕ → List ℕ
zeros n = replicate n 0

-- the three bytes of pixel i in an answer buffer
abbrev pub pixel_at : ℕ → List ℕ → List ℕ
pixel_at i out = take 3 (drop (3 * i) out)

-- blank: 0 no, any other number yes
abbrev pub run_bytes : Panel → ℕ → ℕ → Vram → List ℕ → List ℕ
run_bytes p blank k s r = cond (eqb blank 0) (shown p k s r) (zeros (3 * k))
