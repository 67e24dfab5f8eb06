-- What a run answers and leaves, for every input. A refusal changes nothing. Assumes nothing.
use Rattle.std.specs.Prelude.{ℕ, ◌*◌, ◌&&◌, List, eqb, leb, length}
use Rattle.numbers.specs.Refuse.{refuse, first_of, leaves}
use Rattle.numbers.specs.Buffer.{over}
use Rattle.vram.specs.declared.Vram.{Vram}
use Rattle.vram.specs.Calls.{Answered}
use Rattle.vram.specs.State.{ruled}
use Rattle.vram.specs.Serial.{clocks}
use Rattle.vram.specs.Calls.{answered, clocks_refusal}
use Rattle.palette.specs.declared.Palette.{Palette}
use Rattle.palette.specs.State.{ruled as palette_ruled}
use Rattle.panel.specs.Panel.{widened, unwidened, panel_of, run_bytes}

-- 1 and 3 for what is given, 10 and 14 as the clocks are refused, 15 for the buffer
unfoldable pub run_refusal : Vram → Palette → ℕ → ℕ → ℕ → ℕ → ℕ
run_refusal s p serial table k bytes =
    refuse (ruled s && palette_ruled p) 1
    (refuse (eqb serial 256 && eqb table 768) 3 (first_of (clocks_refusal s k) (refuse (leb (3 * k) bytes) 15 0)))

-- what is answered, and the buffer afterwards
pub record Outcome : Type 0 where
  pub answer : Answered
  pub buffer : List ℕ

abbrev pub outcome : Answered → List ℕ → Outcome
outcome r out = record { answer = r; buffer = out }

-- by any rule of parts
unfoldable pub run_call_by : (ℕ → ℕ) → Vram → List ℕ → Palette → List ℕ → ℕ → ℕ → List ℕ → Outcome
run_call_by parts s r p t k blank out =
    let n = run_refusal s p (length r) (length t) k (length out) in
    outcome (answered n (leaves n s (clocks k s))) (leaves n out (over (run_bytes (panel_of parts p.mask t) blank k s r) out))

-- the default: eight bits to a part
abbrev pub run_call : Vram → List ℕ → Palette → List ℕ → ℕ → ℕ → List ℕ → Outcome
run_call = run_call_by widened

-- the run that names six bits
abbrev pub run_six_call : Vram → List ℕ → Palette → List ℕ → ℕ → ℕ → List ℕ → Outcome
run_six_call = run_call_by unwidened
