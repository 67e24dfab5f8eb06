-- The low part that waits, and the three outputs on their way: change request M-112. Assumes nothing.
use Rattle.std.specs.Prelude.{ℕ, Bool, true, false, ◌&&◌, List, [], ◌∷◌, leb, Option}
use Rattle.colours.specs.declared.Colours.{Colours}
use Rattle.std.specs.Prelude.Option.{None, Some}
use Rattle.colours.specs.declared.Output.{Output}
use Rattle.colours.specs.declared.Output.TheVariants.{Sync, Blank, Overlay, Colour}

-- every field, in the order of the struct
abbrev pub colours : Option ℕ → Output → Output → Output → Colours
colours waiting first second third = record { waiting = waiting; first = first; second = second; third = third }

-- nothing waits, and three outputs at blank level are on their way
abbrev pub fresh : Colours
fresh = colours None Blank Blank Blank

-- ---- a state with one thing changed

abbrev pub with_waiting : Colours → Option ℕ → Colours
with_waiting s w = colours w s.first s.second s.third

-- the pipe one clock on: an output enters behind the two that stay
abbrev pub moved : Colours → Output → Colours
moved s asked = colours s.waiting s.second s.third asked

-- the outputs on their way, the next to come out first
abbrev pub pipe : Colours → List Output
pipe s = s.first ∷ s.second ∷ s.third ∷ []

-- ---- the low part

abbrev pub waits : Option ℕ → Bool
waits None = false
waits (Some low) = true

-- 0 where none waits
abbrev pub low_waiting : Option ℕ → ℕ
low_waiting None = 0
low_waiting (Some low) = low

-- ---- the states that the rules allow

-- a colour has steps 0 to 15
abbrev pub steps_ok : Output → Bool
steps_ok Sync = true
steps_ok Blank = true
steps_ok (Overlay red green blue) = true
steps_ok (Colour red green blue) = (leb red 15 && leb green 15) && leb blue 15

unfoldable pub ruled : Colours → Bool
ruled s = (steps_ok s.first && steps_ok s.second) && steps_ok s.third
