-- In every session a state that the rules allow stays one, and no pixel that can be accepted is left out. Assumes nothing.
use Rattle.std.specs.Prelude.{◌≡◌, refl, true, List, [], ◌∷◌, map, length}
use Rattle.std.proofs.Common.{ap}
use Rattle.colours.specs.declared.Inputs.{Inputs}
use Rattle.colours.specs.State.{ruled}
use Rattle.colours.specs.Calls.{Emitted, pixel_call}
use Rattle.colours.proofs.CallLaws.{Reached, pixel_makes}
use Rattle.colours.proofs.StateLaws.{write_ruled, low_ruled, high_ruled, pixel_ruled}
use Rattle.colours.specs.Session.{Board, Event, Write, WriteLow, WriteHigh, Pixel, Lend, after, session, Passed, passed}

pub after_ruled : (e : Event) (b : Board) → ruled b.state ≡ true → ruled (after e b).state ≡ true
after_ruled (Write address value) b r = write_ruled b.state b.table r address value
after_ruled (WriteLow low) b r = low_ruled b.state low r
after_ruled (WriteHigh address high) b r = high_ruled b.state b.table r address high
after_ruled (Pixel i) b r = pixel_ruled b.state b.table r i
after_ruled (Lend t) b r = r

pub session_ruled : (es : List Event) (b : Board) → ruled b.state ≡ true → ruled (session es b).state ≡ true
session_ruled [] b r = r
session_ruled (e ∷ es) b r = session_ruled es (after e b) (after_ruled e b r)

-- ---- where every pixel finds a table of 64 words and has an address in it, every one is accepted

-- the inputs of the pixels among some events
abbrev pub inputs_of : List Event → List Inputs
inputs_of [] = []
inputs_of (Write address value ∷ es) = inputs_of es
inputs_of (WriteLow low ∷ es) = inputs_of es
inputs_of (WriteHigh address high ∷ es) = inputs_of es
inputs_of (Pixel i ∷ es) = i ∷ inputs_of es
inputs_of (Lend t ∷ es) = inputs_of es

-- each pixel finds such a table and has such an address
abbrev pub AllReached : List Event → Board → Type 0
AllReached [] b = Unit {0}
AllReached (Write address value ∷ es) b = AllReached es (after (Write address value) b)
AllReached (WriteLow low ∷ es) b = AllReached es (after (WriteLow low) b)
AllReached (WriteHigh address high ∷ es) b = AllReached es (after (WriteHigh address high) b)
AllReached (Pixel i ∷ es) b = Reached (length b.table) i.address × AllReached es (after (Pixel i) b)
AllReached (Lend t ∷ es) b = AllReached es (after (Lend t) b)

abbrev inputs_passed : Passed → Inputs
inputs_passed p = p.inputs

pub all_pass : (es : List Event) (b : Board) → ruled b.state ≡ true → AllReached es b → map inputs_passed (passed es b) ≡ inputs_of es
all_pass [] b r a = refl
all_pass (Write address value ∷ es) b r a = all_pass es (after (Write address value) b) (after_ruled (Write address value) b r) a
all_pass (WriteLow low ∷ es) b r a = all_pass es (after (WriteLow low) b) (after_ruled (WriteLow low) b r) a
all_pass (WriteHigh address high ∷ es) b r a =
    all_pass es (after (WriteHigh address high) b) (after_ruled (WriteHigh address high) b r) a
all_pass (Pixel i ∷ es) b r a =
    rw (done) (ap (λ (l : List Inputs). i ∷ l) (all_pass es (after (Pixel i) b) (after_ruled (Pixel i) b r) a.1))
  where
    done : (pixel_call b.state b.table i).number ≡ 0
    done = ap (λ (x : Emitted). x.number) (pixel_makes b.state b.table i (record { rule = r; reached = a.0 }))
all_pass (Lend t ∷ es) b r a = all_pass es (after (Lend t) b) r a
