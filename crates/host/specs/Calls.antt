-- What the clock and the runs to the panel answer and leave, which take the video RAM's state from C: 1 where no `Vram` can be so, and else what
-- the call below answers, with the state handed back. Assumes nothing.
use Rattle.std.specs.Prelude.{ℕ, List}
use Rattle.vram.specs.Calls.{Clocked as VramClocked}
use Rattle.vram.specs.Calls.{Answered, clock_call as vram_clock}
use Rattle.palette.specs.declared.Palette.{Palette}
use Rattle.panel.specs.Panel.{widened, unwidened}
use Rattle.panel.specs.Calls.{Outcome as PanelOutcome, run_call_by as panel_run_by}
use Rattle.registers.specs.declared.Registers.{Registers}
use Rattle.registers.specs.State.{handed, taking}
use Rattle.host.specs.declared.Shown.{Shown}
use Rattle.host.specs.declared.Clocked.{Clocked}

-- ---- a serial clock

abbrev pub clock_answer : VramClocked → Clocked
clock_answer c = record { state = handed c.state; word = c.word; number = c.number }

unfoldable pub clock_call : Registers → List ℕ → Clocked
clock_call s r = taking s (λ v. clock_answer (vram_clock v r)) (record { state = s; word = 0; number = 1 })

-- ---- a run to the panel

pub record ShownTo : Type 0 where
  pub answer : Shown
  pub buffer : List ℕ

abbrev pub shown : Shown → List ℕ → ShownTo
shown r out = record { answer = r; buffer = out }

abbrev pub shown_by : Answered → Shown
shown_by a = record { state = handed a.state; number = a.number }

abbrev pub panel_answer : PanelOutcome → ShownTo
panel_answer o = shown (shown_by o.answer) o.buffer

-- by any rule of parts
unfoldable pub panel_call_by : (ℕ → ℕ) → Registers → List ℕ → Palette → List ℕ → ℕ → ℕ → List ℕ → ShownTo
panel_call_by parts s r p t clocks blank out =
    taking s (λ v. panel_answer (panel_run_by parts v r p t clocks blank out)) (shown (record { state = s; number = 1 }) out)

-- the default: eight bits to a part
abbrev pub panel_call : Registers → List ℕ → Palette → List ℕ → ℕ → ℕ → List ℕ → ShownTo
panel_call = panel_call_by widened

-- the run that names six bits
abbrev pub panel_six_call : Registers → List ℕ → Palette → List ℕ → ℕ → ℕ → List ℕ → ShownTo
panel_six_call = panel_call_by unwidened
