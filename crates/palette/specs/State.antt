-- The palette state: document 01, "The palette". Assumes nothing.
use Rattle.std.specs.Prelude.{ℕ, ◌+◌, ◌%◌, Bool, cond, ◌&&◌, ◌==◌, nat_le}
use Rattle.palette.specs.declared.Palette.{Palette}
use Rattle.palette.specs.Table.{Colour, colour}

-- zeros, pixel mask 255
abbrev pub fresh : Palette
fresh = record { address = 0; phase = 0; red = 0; green = 0; blue = 0; mask = 255 }

-- ---- a state with one thing changed

abbrev pub with_address : Palette → ℕ → Palette
with_address p a = record { address = a; phase = p.phase; red = p.red; green = p.green; blue = p.blue; mask = p.mask }

abbrev pub with_phase : Palette → ℕ → Palette
with_phase p n = record { address = p.address; phase = n; red = p.red; green = p.green; blue = p.blue; mask = p.mask }

abbrev pub with_colours : Palette → Colour → Palette
with_colours p c = record { address = p.address; phase = p.phase; red = c.red; green = c.green; blue = c.blue; mask = p.mask }

abbrev pub with_mask : Palette → ℕ → Palette
with_mask p m = record { address = p.address; phase = p.phase; red = p.red; green = p.green; blue = p.blue; mask = m }

-- ---- the states that the rules allow

-- phase 0 to 2, three colour registers of six bits
unfoldable pub ruled : Palette → Bool
ruled p = nat_le p.phase 2 && nat_le p.red 63 && nat_le p.green 63 && nat_le p.blue 63

-- ---- the phase, and A

-- of three the one of the phase: red, green, blue
abbrev pub by_phase : {A : Type 0} → ℕ → A → A → A → A
by_phase phase red green blue = cond (phase == 0) red (cond (phase == 1) green blue)

-- the register of the phase
abbrev pub register : Palette → ℕ
register p = by_phase p.phase p.red p.green p.blue

abbrev pub with_register : Palette → ℕ → Palette
with_register p v =
    with_colours p (by_phase p.phase (colour v p.green p.blue) (colour p.red v p.blue) (colour p.red p.green v))

-- phase moves on, from blue to 0
abbrev pub moved : Palette → Palette
moved p = with_phase p (by_phase p.phase 1 2 0)

-- A goes up by one; A wraps from 255 to 0
abbrev pub advanced : Palette → Palette
advanced p = with_address p ((p.address + 1) % 256)
