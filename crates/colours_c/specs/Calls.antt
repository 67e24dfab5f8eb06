-- What each export answers and leaves, for every input: the call below it on the state taken, or 1 and the state as it came where the rules
-- exclude it. The reads have no state, and are the calls below. Assumes nothing.
use Rattle.std.specs.Prelude.{ℕ, cond, List, Result}
use Rattle.std.specs.Prelude.Result.{Ok, Err}
use Rattle.numbers.specs.declared.Refusal.{Refusal}
use Rattle.numbers.specs.declared.Refusal.TheVariants.{StateExcluded}
use Rattle.numbers.specs.Refusal.{number_of}
use Rattle.numbers.specs.Refuse.{leaves}
use Rattle.colours.specs.declared.Colours.{Colours}
use Rattle.colours.specs.Calls.{Coloured as Below, Emitted as EmittedBelow, Asked, Outcome as OutcomeBelow, write_call, write_low_call, write_high_call, pixel_call, asked_for, ask_call}
use Rattle.colours.specs.Output.{zeros}
use Rattle.colours_c.specs.declared.Held.{Held}
use Rattle.colours_c.specs.declared.HeldInputs.{HeldInputs}
use Rattle.colours_c.specs.declared.HeldLevels.{HeldLevels}
use Rattle.colours_c.specs.declared.Coloured.{Coloured}
use Rattle.colours_c.specs.declared.Emitted.{Emitted}
use Rattle.colours_c.specs.Levels.{held_levels, handed_output}
use Rattle.colours_c.specs.State.{lawful, taken, handed, taken_inputs}

-- a call that takes the state from C: what it makes of the state, and where the rules exclude it the answer with number 1
abbrev pub taking : {A : Type 0} → Held → (Colours → A) → A → A
taking h made excluded = cond (lawful h) (made (taken h)) excluded

-- the state taken, or refused with 1
abbrev pub taken_or_excluded : Held → Result Colours Refusal
taken_or_excluded h = taking h (λ s. Ok s) (Err StateExcluded)

-- ---- a write without the table

abbrev pub handed_on : Below → Coloured
handed_on r = record { state = handed r.state; number = r.number }

abbrev pub held_excluded : Held → Coloured
held_excluded h = record { state = h; number = 1 }

-- of the answer to a write: refused, the state is the one that C handed over
abbrev pub answered : Held → Result Colours Refusal → Coloured
answered h (Ok s) = record { state = handed s; number = 0 }
answered h (Err refusal) = record { state = h; number = number_of refusal }

unfoldable pub held_low : Held → ℕ → Coloured
held_low h low = taking h (λ s. handed_on (write_low_call s low)) (held_excluded h)

-- ---- writes to the table

-- what is answered, and the table afterwards
pub record Outcome : Type 0 where
  pub answer : Coloured
  pub table : List ℕ

abbrev pub outcome : Coloured → List ℕ → Outcome
outcome r t = record { answer = r; table = t }

abbrev pub handed_outcome : OutcomeBelow → Outcome
handed_outcome o = outcome (handed_on o.answer) o.table

unfoldable pub held_write : Held → List ℕ → ℕ → ℕ → Outcome
held_write h t address value = taking h (λ s. handed_outcome (write_call s t address value)) (outcome (held_excluded h) t)

unfoldable pub held_high : Held → List ℕ → ℕ → ℕ → Outcome
held_high h t address high = taking h (λ s. handed_outcome (write_high_call s t address high)) (outcome (held_excluded h) t)

-- ---- a pixel

abbrev pub handed_on_pixel : EmittedBelow → Emitted
handed_on_pixel r = record { state = handed r.state; levels = handed_output r.output; number = r.number }

abbrev pub pixel_refused : ℕ → Held → Emitted
pixel_refused n h = record { state = h; levels = held_levels 0 0 0; number = n }

unfoldable pub held_pixel : Held → List ℕ → HeldInputs → Emitted
held_pixel h t p = taking h (λ s. handed_on_pixel (pixel_call s t (taken_inputs p))) (pixel_refused 1 h)

-- what it asks for, where the rules allow the state
abbrev pub held_asked : Held → List ℕ → HeldInputs → Asked
held_asked h t p = cond (lawful h) (ask_call t (taken_inputs p)) (asked_for 1 zeros)

-- the same with no state taken (`moved_on`): the outputs on their way move up as they are
abbrev pub held_moved : Held → HeldLevels → Held
held_moved h entering = record { waiting = h.waiting; low = h.low; first = h.second; second = h.third; third = entering }

abbrev pub moved_on : Held → Asked → Emitted
moved_on h r =
    leaves r.number (pixel_refused r.number h)
    (record { state = held_moved h (handed_output r.output); levels = h.first; number = r.number })
