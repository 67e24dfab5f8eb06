-- An output as three levels of C, and as `colours` has it. Assumes nothing.
use Rattle.std.specs.Prelude.{ℕ, Bool, ◌&&◌, ◌||◌, cond, eqb, leb}
use Rattle.colours.specs.declared.Level.{Level}
use Rattle.colours.specs.declared.Level.TheVariants as level
use Rattle.colours.specs.declared.Output.{Output}
use Rattle.colours.specs.declared.Output.TheVariants.{Sync, Blank, Overlay, Colour}
use Rattle.colours.specs.Output.{levels_of}
use Rattle.colours_c.specs.declared.HeldLevels.{HeldLevels}

abbrev pub held_levels : ℕ → ℕ → ℕ → HeldLevels
held_levels red green blue = record { red = red; green = green; blue = blue }

-- a step is its number, and the names follow
abbrev pub number_of : Level → ℕ
number_of (level.Step n) = n
number_of level.Sync = 16
number_of level.Blank = 17
number_of level.Black = 18
number_of level.White = 19

unfoldable pub handed_output : Output → HeldLevels
handed_output o = let l = levels_of o in held_levels (number_of l.red) (number_of l.green) (number_of l.blue)

-- ---- three levels that a pixel can make together

abbrev pub black_or_white : ℕ → Bool
black_or_white n = eqb n 18 || eqb n 19

-- green tells: with a step the others are steps too; with sync or blank they are at blank level; else all three are black or white
unfoldable pub makes : HeldLevels → Bool
makes l =
    cond (leb l.green 15) (leb l.red 15 && leb l.blue 15)
    (cond (leb l.green 17) (eqb l.red 17 && eqb l.blue 17)
    ((black_or_white l.red && black_or_white l.green) && black_or_white l.blue))

-- which output they are: green tells
unfoldable pub taken_output : HeldLevels → Output
taken_output l =
    cond (eqb l.green 16) Sync
    (cond (eqb l.green 17) Blank
    (cond (leb 18 l.green) (Overlay (eqb l.red 19) (eqb l.green 19) (eqb l.blue 19))
    (Colour l.red l.green l.blue)))
