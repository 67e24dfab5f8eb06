-- What the sheet works out itself (source document 004), computed from the definitions. Assumes nothing.
use Rattle.std.specs.Prelude.{◌≡◌, ℕ, zero, suc, ◌*◌, Bool, true, false, cond, List, [], ◌∷◌, take, replicate, refl}
use Rattle.words.specs.Bit.{bit, of_bits}
use Rattle.words.specs.Word.{merged, covers, lets}
use Rattle.vram.specs.declared.Cycle.{Cycle}
use Rattle.vram.specs.declared.Cycle.TheVariants.{BlockWrite, LoadColour, LoadMask}
use Rattle.vram.specs.declared.Stop.{Stop}
use Rattle.vram.specs.declared.Stop.TheVariants.{Every16, Every32, Every64, Every128}
use Rattle.vram.specs.declared.Waiting.{Waiting}
use Rattle.vram.specs.declared.Waiting.TheVariants.{None, Tap}
use Rattle.vram.specs.State.{fresh, with_serial, with_stop, other, ruled}
use Rattle.vram.specs.Memory.{put, puts}
use Rattle.vram.specs.Board.{board, effect}
use Rattle.refusals.specs.Refusal.{write_refusal, load_refusal}
use Rattle.vram.specs.Refusal.{given, refusal}
use Rattle.vram.specs.Step.{number, step_by, run_by, run}
use Rattle.vram.specs.Serial.{length_of, clock_in, clock}

-- ---- "Example of block write". The sheet writes registers from bit 0 on; below they are numbers. The four words were zeros, so a bit that
-- is not written stays 0

-- colour 1011 1011 1100 0111, write mask 1110 1111 1111 1011, column mask 1111 0000 0111 1010, from bit 0 on; column address 3
abbrev example : List Cycle
example = LoadColour 0xE3DD 3 ∷ LoadMask 0xDFF7 3 ∷ BlockWrite 0 3 0x5E0F 1 0 3 ∷ []

-- quad 1: bits 0 and 2 in all four columns (bit 3 is masked); quad 2: nothing; quad 3: bits 8 and 9 in columns 1 to 3; quad 4: bits 14
-- and 15 (bit 13 is masked) in columns 0 and 2
pub block_example : take 4 (run example (board fresh (replicate 512 0) (replicate 256 0))).memory ≡ 0xC005 ∷ 0x0305 ∷ 0xC305 ∷ 0x0305 ∷ []
unfolding run_by step_by number given ruled refusal write_refusal load_refusal effect put puts merged of_bits bit covers lets
block_example = refl

-- ---- Table 5, "stop-point locations": the places at which a clock uses up the waiting tap

abbrev used_up : Waiting → Bool
used_up None = true
used_up (Tap tap) = false

-- of k places from one on, with a tap waiting in the other half
abbrev stops : Stop → ℕ → ℕ → List ℕ
stops t place zero = []
stops t place (suc k) =
    let s = with_stop (with_serial fresh true place (Tap (128 * other place))) t in
    cond (used_up (clock s).waiting) (place ∷ stops t (suc place) k) (stops t (suc place) k)

pub stop_example : (stops Every16 0 256 ≡ 15 ∷ 31 ∷ 47 ∷ 63 ∷ 79 ∷ 95 ∷ 111 ∷ 127 ∷ 143 ∷ 159 ∷ 175 ∷ 191 ∷ 207 ∷ 223 ∷ 239 ∷ 255 ∷ [])
    × (stops Every32 0 256 ≡ 31 ∷ 63 ∷ 95 ∷ 127 ∷ 159 ∷ 191 ∷ 223 ∷ 255 ∷ [])
    × (stops Every64 0 256 ≡ 63 ∷ 127 ∷ 191 ∷ 255 ∷ [])
    × (stops Every128 0 256 ≡ 127 ∷ 255 ∷ [])
unfolding length_of clock_in
stop_example = (refl, refl, refl, refl)
