-- The state and the inputs as C has them, and as `colours` has them. Assumes nothing.
use Rattle.std.specs.Prelude.{ℕ, Bool, not, ◌&&◌, ◌||◌, cond, eqb, Option}
use Rattle.words.specs.Bit.{digit}
use Rattle.colours.specs.declared.Colours.{Colours}
use Rattle.colours.specs.declared.Inputs.{Inputs}
use Rattle.std.specs.Prelude.Option.{None, Some}
use Rattle.colours.specs.State.{colours, waits, low_waiting}
use Rattle.colours_c.specs.declared.Held.{Held}
use Rattle.colours_c.specs.declared.HeldInputs.{HeldInputs}
use Rattle.colours_c.specs.Levels.{handed_output, makes, taken_output}

-- a low part waits, or none does and it is 0
abbrev pub part_ok : ℕ → ℕ → Bool
part_ok waiting low = eqb waiting 1 || (eqb waiting 0 && eqb low 0)

-- so, and with three outputs that pixels can make
unfoldable pub lawful : Held → Bool
lawful h = ((part_ok h.waiting h.low && makes h.first) && makes h.second) && makes h.third

abbrev pub taken_waiting : ℕ → ℕ → Option ℕ
taken_waiting waiting low = cond (eqb waiting 0) None (Some low)

unfoldable pub taken : Held → Colours
taken h = colours (taken_waiting h.waiting h.low) (taken_output h.first) (taken_output h.second) (taken_output h.third)

unfoldable pub handed : Colours → Held
handed s =
    record {
      waiting = digit (waits s.waiting);
      low = low_waiting s.waiting;
      first = handed_output s.first;
      second = handed_output s.second;
      third = handed_output s.third;
    }

-- an input byte that is not 0 is yes
unfoldable pub taken_inputs : HeldInputs → Inputs
taken_inputs p =
    record {
      address = p.address;
      horizontal = not (eqb p.horizontal 0);
      vertical = not (eqb p.vertical 0);
      blank = not (eqb p.blank 0);
      overlay = not (eqb p.overlay 0);
      red = not (eqb p.red 0);
      green = not (eqb p.green 0);
      blue = not (eqb p.blue 0);
      blink = not (eqb p.blink 0);
    }
