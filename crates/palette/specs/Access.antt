-- What each access does where nothing is refused: document 01, "The palette", and of a colour read change request M-102. Assumes nothing.
use Rattle.std.specs.Prelude.{ℕ, Bool, cond, List, ◌==◌}
use Rattle.palette.specs.declared.Palette.{Palette}
use Rattle.palette.specs.Table.{colour, six, gives, store}
use Rattle.palette.specs.State.{with_address, with_phase, with_colours, with_mask, register, with_register, moved, advanced}

-- ---- write select 0

-- A = data, phase 0
abbrev pub addressed : Palette → ℕ → Palette
addressed p d = with_phase (with_address p d) 0

-- ---- after a write of select 3, and after a read of blue

-- the registers take entry A, and A goes up by one
abbrev pub taken : Palette → List ℕ → Palette
taken p t = advanced (with_colours p (gives t p.address))

-- ---- write select 1

-- the register of the phase takes data mod 64; phase moves on
abbrev pub registered : Palette → ℕ → Palette
registered p d = moved (with_register p (six d))

-- the phase is that of blue
abbrev pub at_blue : Palette → Bool
at_blue p = p.phase == 2

-- all three go to entry A
abbrev pub entered : List ℕ → Palette → List ℕ
entered t p = store t p.address (colour p.red p.green p.blue)

-- after blue all three go to entry A, A goes up by one, phase 0
abbrev pub coloured : Palette → ℕ → Palette
coloured p d = cond (at_blue p) (advanced (registered p d)) (registered p d)

abbrev pub coloured_table : Palette → List ℕ → ℕ → List ℕ
coloured_table p t d = cond (at_blue p) (entered t (registered p d)) t

-- ---- a write, by its select

unfoldable pub after_write : Palette → List ℕ → ℕ → ℕ → Palette
after_write p t s d = cond (s == 0) (addressed p d) (cond (s == 1) (coloured p d) (cond (s == 2) (with_mask p d) (taken (addressed p d) t)))

unfoldable pub table_after_write : Palette → List ℕ → ℕ → ℕ → List ℕ
table_after_write p t s d = cond (s == 1) (coloured_table p t d) t

-- ---- read select 1

-- phase moves on; after blue the registers take entry A, A goes up by one, phase 0
abbrev pub colour_read : Palette → List ℕ → Palette
colour_read p t = cond (at_blue p) (taken (moved p) t) (moved p)

-- ---- a read, by its select

-- the byte: A, the register of the phase, the pixel mask
unfoldable pub byte_read : Palette → ℕ → ℕ
byte_read p s = cond (s == 0) p.address (cond (s == 1) (register p) p.mask)

-- the state
unfoldable pub after_read : Palette → List ℕ → ℕ → Palette
after_read p t s = cond (s == 1) (colour_read p t) p
