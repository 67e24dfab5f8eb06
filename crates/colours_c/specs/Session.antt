-- Calls from C one after the other, and the call of `colours` below each. Assumes nothing.
use Rattle.std.specs.Prelude.{ℕ, cond, List, [], ◌∷◌, eqb}
use Rattle.colours.specs.Session.{Board, Event, Write, WriteLow, WriteHigh, Pixel, Lend}
use Rattle.colours_c.specs.declared.Held.{Held}
use Rattle.colours_c.specs.declared.HeldInputs.{HeldInputs}
use Rattle.colours_c.specs.declared.HeldLevels.{HeldLevels}
use Rattle.colours_c.specs.State.{handed, taken_inputs}
use Rattle.colours_c.specs.Calls.{held_low, held_write, held_high, held_pixel}

-- the state as C holds it, and the table
pub record HeldBoard : Type 0 where
  pub state : Held
  pub table : List ℕ

abbrev pub held_board : Held → List ℕ → HeldBoard
held_board h t = record { state = h; table = t }

abbrev pub handed_board : Board → HeldBoard
handed_board b = held_board (handed b.state) b.table

-- a call from C, or a table changed by whoever lends it
pub data HeldEvent : Type 0 where
  HeldWrite : (address value : ℕ) → HeldEvent
  HeldLow : (low : ℕ) → HeldEvent
  HeldHigh : (address high : ℕ) → HeldEvent
  HeldPixel : (inputs : HeldInputs) → HeldEvent
  HeldLend : (table : List ℕ) → HeldEvent

abbrev pub held_after : HeldEvent → HeldBoard → HeldBoard
held_after (HeldWrite address value) b =
    let o = held_write b.state b.table address value in held_board o.answer.state o.table
held_after (HeldLow low) b = held_board (held_low b.state low).state b.table
held_after (HeldHigh address high) b = let o = held_high b.state b.table address high in held_board o.answer.state o.table
held_after (HeldPixel p) b = held_board (held_pixel b.state b.table p).state b.table
held_after (HeldLend t) b = held_board b.state t

abbrev pub held_session : List HeldEvent → HeldBoard → HeldBoard
held_session [] b = b
held_session (e ∷ es) b = held_session es (held_after e b)

-- the levels that accepted pixels answer, one call put in front of the others
abbrev pub held_passing : HeldEvent → HeldBoard → List HeldLevels → List HeldLevels
held_passing (HeldWrite address value) b others = others
held_passing (HeldLow low) b others = others
held_passing (HeldHigh address high) b others = others
held_passing (HeldPixel p) b others = let r = held_pixel b.state b.table p in cond (eqb r.number 0) (r.levels ∷ others) others
held_passing (HeldLend t) b others = others

abbrev pub held_came : List HeldEvent → HeldBoard → List HeldLevels
held_came [] b = []
held_came (e ∷ es) b = held_passing e b (held_came es (held_after e b))

-- the call below
abbrev pub below : HeldEvent → Event
below (HeldWrite address value) = Write address value
below (HeldLow low) = WriteLow low
below (HeldHigh address high) = WriteHigh address high
below (HeldPixel p) = Pixel (taken_inputs p)
below (HeldLend t) = Lend t
