-- What a pixel asks for, and the level of each gun: change request M-112, source document 003's Table 2. Assumes nothing.
use Rattle.std.specs.Prelude.{ℕ, ◌-◌, ◌/◌, ◌%◌, Bool, true, false, not, ◌&&◌, ◌||◌, cond}
use Rattle.words.specs.Bit.{bit}
use Rattle.colours.specs.declared.Inputs.{Inputs}
use Rattle.colours.specs.declared.Output.{Output}
use Rattle.colours.specs.declared.Output.TheVariants.{Sync, Blank, Overlay, Colour}
use Rattle.colours.specs.declared.Level.{Level}
use Rattle.colours.specs.declared.Level.TheVariants as level
use Rattle.colours.specs.declared.Levels.{Levels}

-- ---- what a pixel asks for, with the word at its address

-- the twelve colour bits; blink together with the word's blink bit, bit 12, inverts them
abbrev pub blinked : Bool → ℕ → ℕ
blinked blink word = cond (blink && bit word 12) (4095 - word % 4096) (word % 4096)

-- a step for each gun: red has bits 0 to 3, green 4 to 7, blue 8 to 11
abbrev pub colour_of : ℕ → Output
colour_of bits = Colour (bits % 16) (bits / 16 % 16) (bits / 256 % 16)

abbrev pub both_syncs : Inputs → Bool
both_syncs i = i.horizontal && i.vertical

abbrev pub one_sync : Inputs → Bool
one_sync i = (i.horizontal || i.vertical) && not (both_syncs i)

-- one sync of the two; both, or blank; overlay; colour
unfoldable pub asks : Inputs → ℕ → Output
asks i word =
    cond (one_sync i) Sync
    (cond (both_syncs i || i.blank) Blank
    (cond i.overlay (Overlay i.red i.green i.blue)
    (colour_of (blinked i.blink word))))

-- what a refused pixel answers: zeros, as C has them
abbrev pub zeros : Output
zeros = Colour 0 0 0

-- ---- the level of each gun

abbrev pub levels : Level → Level → Level → Levels
levels red green blue = record { red = red; green = green; blue = blue }

-- peak white where the gun is on, reference black where it is off
abbrev pub overlaid : Bool → Level
overlaid true = level.White
overlaid false = level.Black

abbrev pub levels_of : Output → Levels
levels_of Sync = levels level.Blank level.Sync level.Blank
levels_of Blank = levels level.Blank level.Blank level.Blank
levels_of (Overlay red green blue) = levels (overlaid red) (overlaid green) (overlaid blue)
levels_of (Colour red green blue) = levels (level.Step red) (level.Step green) (level.Step blue)
