-- A serial clock and the runs to the panel from C on serial registers that agree in every high byte: the same number and state; the word
-- answered agrees in its high byte, and each pixel whose high byte is neither 0 nor 255 shows the same colour. Change request M-110.
-- Assumes nothing.
use Rattle.std.specs.Prelude.{ℕ, ◌<◌, ◌≡◌, refl, List, ◌≢◌, length, get_or}
use Rattle.std.proofs.Common.{arith}
use Rattle.words.specs.Word.{high}
use Rattle.vram.specs.Serial.{clocked_words}
use Rattle.vram.specs.Calls.{clock_call as vram_clock}
use Rattle.vram.specs.High.{Agree}
use Rattle.vram.proofs.HighLaws.{clock_number, clock_state, clock_high}
use Rattle.palette.specs.declared.Palette.{Palette}
use Rattle.panel.specs.Panel.{pixel_at}
use Rattle.panel.specs.Calls.{run_call_by as panel_run_by}
use Rattle.panel.proofs.HighLaws.{answer_twins, pixel_twins}
use Rattle.registers.specs.declared.Registers.{Registers}
use Rattle.registers.specs.State.{taken}
use Rattle.registers.specs.StateLaws.{taking_both}
use Rattle.host.specs.declared.Clocked.{Clocked}
use Rattle.host.specs.Calls.{clock_answer, clock_call, ShownTo, panel_answer, panel_call_by}

-- ---- a serial clock

pub record TwinClocked (o u : Clocked) : Type 0 where
  pub state : o.state ≡ u.state
  pub number : o.number ≡ u.number
  pub word : high o.word ≡ high u.word

pub clock_twins : (s : Registers) {q r : List ℕ} → Agree q r → TwinClocked (clock_call s q) (clock_call s r)
unfolding clock_call
clock_twins s {q} {r} g =
    taking_both TwinClocked s (λ v. clock_answer (vram_clock v q)) (λ v. clock_answer (vram_clock v r)) _ _
    (record { state = rw (clock_state g (taken s)); number = clock_number g (taken s); word = clock_high g (taken s) })
    (record { state = refl; number = refl; word = refl })

-- ---- a run to the panel, by any rule of parts, each with a buffer of its own

-- of so many clocks, whose words are these
pub record TwinShown (clocks : ℕ) (words : List ℕ) (o u : ShownTo) : Type 0 where
  pub answer : o.answer ≡ u.answer
  pub pixels : o.answer.number ≡ 0 → (i : ℕ) → i < clocks → high (get_or words i 0) ≢ 0 → high (get_or words i 0) ≢ 255
      → pixel_at i o.buffer ≡ pixel_at i u.buffer

pub panel_twins : (parts : ℕ → ℕ) (s : Registers) {q r : List ℕ} → Agree q r → (p : Palette) (t : List ℕ) (clocks blank : ℕ) (out out' : List ℕ)
    → length out ≡ length out'
    → TwinShown clocks (clocked_words clocks (taken s) q) (panel_call_by parts s q p t clocks blank out) (panel_call_by parts s r p t clocks blank out')
unfolding panel_call_by
panel_twins parts s {q} {r} g p t clocks blank out out' l =
    taking_both (TwinShown clocks (clocked_words clocks (taken s) q)) s
    (λ v. panel_answer (panel_run_by parts v q p t clocks blank out)) (λ v. panel_answer (panel_run_by parts v r p t clocks blank out')) _ _
    (record { answer = rw (answer_twins parts (taken s) p t clocks blank g out out' l); pixels = pixel_twins parts (taken s) p t clocks blank g out out' l })
    (record { answer = refl; pixels = λ z. absurd (omega arith) })
