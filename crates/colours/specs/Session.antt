-- Calls one after the other, and the pixels that are accepted among them. Assumes nothing.
use Rattle.std.specs.Prelude.{ℕ, cond, List, [], ◌∷◌, eqb}
use Rattle.colours.specs.declared.Colours.{Colours}
use Rattle.colours.specs.declared.Output.{Output}
use Rattle.colours.specs.declared.Inputs.{Inputs}
use Rattle.colours.specs.Calls.{Outcome, write_call, write_low_call, write_high_call, asks_at, pixel_call}

-- the state, and the table that is lent
pub record Board : Type 0 where
  pub state : Colours
  pub table : List ℕ

abbrev pub board : Colours → List ℕ → Board
board s t = record { state = s; table = t }

abbrev pub left : Outcome → Board
left o = board o.answer.state o.table

-- a call with its arguments; a read changes nothing. Between calls whoever lends the table may put anything into it.
pub data Event : Type 0 where
  Write : (address value : ℕ) → Event
  WriteLow : (low : ℕ) → Event
  WriteHigh : (address high : ℕ) → Event
  Pixel : (inputs : Inputs) → Event
  Lend : (table : List ℕ) → Event

-- what is there after it, refused or not
abbrev pub after : Event → Board → Board
after (Write address value) b = left (write_call b.state b.table address value)
after (WriteLow low) b = board (write_low_call b.state low).state b.table
after (WriteHigh address high) b = left (write_high_call b.state b.table address high)
after (Pixel i) b = board (pixel_call b.state b.table i).state b.table
after (Lend t) b = board b.state t

abbrev pub session : List Event → Board → Board
session [] b = b
session (e ∷ es) b = session es (after e b)

-- ---- the accepted pixels of a session

-- its inputs, the table as they entered, and what came out as they entered
pub record Passed : Type 0 where
  pub inputs : Inputs
  pub table : List ℕ
  pub output : Output

-- what it asked for
abbrev pub asked : Passed → Output
asked p = asks_at p.table p.inputs

abbrev pub came : Passed → Output
came p = p.output

-- an event before the others: a pixel that is accepted is one more
abbrev pub passing : Event → Board → List Passed → List Passed
passing (Write address value) b others = others
passing (WriteLow low) b others = others
passing (WriteHigh address high) b others = others
passing (Pixel i) b others =
    let r = pixel_call b.state b.table i in
    cond (eqb r.number 0) (record { inputs = i; table = b.table; output = r.output } ∷ others) others
passing (Lend t) b others = others

abbrev pub passed : List Event → Board → List Passed
passed [] b = []
passed (e ∷ es) b = passing e b (passed es (after e b))
