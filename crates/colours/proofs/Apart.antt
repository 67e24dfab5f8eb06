-- Pixels, refused writes and changed tables between the low part and the high part: the low part waits, and the word is stored all the
-- same. Assumes nothing.
use Rattle.std.specs.Prelude.{◌≡◌, refl, true, List, [], ◌∷◌, ◌≢◌, ℕ, length, set, Option}
use Rattle.std.proofs.Common.{ap, ◌∙◌}
use Rattle.std.specs.Prelude.Option.{None, Some}
use Rattle.colours.specs.Table.{joined}
use Rattle.colours.specs.State.{with_waiting, waits, low_waiting, ruled}
use Rattle.colours.specs.Calls.{Coloured, coloured, Outcome, outcome, write_call, write_low_call, write_high_call}
use Rattle.colours.proofs.CallLaws.{Reached, write_refused, low_refused, high_refused, low_makes, high_makes}
use Rattle.colours.proofs.StateLaws.{pixel_waiting}
use Rattle.colours.specs.Session.{Board, Event, Write, WriteLow, WriteHigh, Pixel, Lend, after, session}
use Rattle.colours.proofs.SessionLaws.{session_ruled}

-- no write that is accepted
abbrev pub NotWritten : Event → Board → Type 0
NotWritten (Write address value) b = (write_call b.state b.table address value).answer.number ≢ 0
NotWritten (WriteLow low) b = (write_low_call b.state low).number ≢ 0
NotWritten (WriteHigh address high) b = (write_high_call b.state b.table address high).answer.number ≢ 0
NotWritten (Pixel i) b = Unit {0}
NotWritten (Lend t) b = Unit {0}

after_waits : (e : Event) (b : Board) → NotWritten e b → (after e b).state.waiting ≡ b.state.waiting
after_waits (Write address value) b n = ap (λ (o : Outcome). o.answer.state.waiting) (write_refused b.state b.table address value n)
after_waits (WriteLow low) b n = ap (λ (r : Coloured). r.state.waiting) (low_refused b.state low n)
after_waits (WriteHigh address high) b n = ap (λ (o : Outcome). o.answer.state.waiting) (high_refused b.state b.table address high n)
after_waits (Pixel i) b n = pixel_waiting b.state b.table i
after_waits (Lend t) b n = refl

abbrev pub NoneWritten : List Event → Board → Type 0
NoneWritten [] b = Unit {0}
NoneWritten (e ∷ es) b = NotWritten e b × NoneWritten es (after e b)

-- pixels, writes that are refused and changed tables leave the low part as it is
pub low_waits : (es : List Event) (b : Board) → NoneWritten es b → (session es b).state.waiting ≡ b.state.waiting
low_waits [] b n = refl
low_waits (e ∷ es) b n = low_waits es (after e b) n.1 ∙ after_waits e b n.0

-- low, then these, then high: the word of the two parts is stored at the address given with the high one
module _ (es : List Event) (b : Board) (low : ℕ) (n : NoneWritten es (after (WriteLow low) b)) (r : ruled b.state ≡ true) where
  -- what is there when the high part comes
  abbrev pub there : Board
  there = session es (after (WriteLow low) b)

  there_waits : there.state.waiting ≡ Some low
  there_waits =
      low_waits es (after (WriteLow low) b) n ∙ ap (λ (x : Coloured). x.state.waiting) (low_makes b.state low r)

  there_ruled : ruled there.state ≡ true
  there_ruled = session_ruled (WriteLow low ∷ es) b r

  pub parts_apart : (address high : ℕ) → Reached (length there.table) address
      → write_high_call there.state there.table address high
      ≡ outcome (coloured 0 (with_waiting there.state None)) (set there.table address (joined low high))
  parts_apart address high g =
      high_makes there.state there.table address high (record { rule = there_ruled; reached = g }) (ap waits there_waits)
      ∙ ap (λ (w : Option ℕ). outcome (coloured 0 (with_waiting there.state None)) (set there.table address (joined (low_waiting w) high)))
      there_waits
