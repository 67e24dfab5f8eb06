-- The mark does not depend on the result: change request M-110. A status mark is the high byte of a word, its result the low byte. Two boards
-- that may differ in every low byte and in nothing else are given the same list and then the same run to the panel. Assumes nothing.
use Rattle.std.specs.Prelude.{ℕ, ◌<◌, ◌≡◌, List, ◌≢◌, get_or}
use Rattle.words.specs.Word.{high}
use Rattle.vram.specs.Board.{Board}
use Rattle.vram.specs.Serial.{clocked_words}
use Rattle.vram.specs.High.{Twins}
use Rattle.palette.specs.declared.Palette.{Palette}
use Rattle.panel.specs.declared.Width.{Width}
use Rattle.panel.specs.Panel.{part_at, pixel_at}
use Rattle.panel.specs.Calls.{Outcome, run_call_by}
use Rattle.marks_apart.specs.Ways.{Way, ran}

-- on either engine, without and with marks of rows, or in pieces, cut anywhere (`Way`); with parts of eight bits or of six (`Width`)
module _ (way : Way) (width : Width) (palette : Palette) (table : List ℕ) (clocks blank : ℕ) where
  -- the run to the panel after the list: `panel::run_at`, of which `panel::run` and `panel::run_six` are the two widths
  abbrev pub shown : Board → List ℕ → Outcome
  shown b out = let x = (ran way b).after in run_call_by (part_at width) x.state x.serial palette table clocks blank out

  -- the word that clock i of that run answers
  abbrev pub word_of : Board → ℕ → ℕ
  word_of b i = let x = (ran way b).after in get_or (clocked_words clocks x.state x.serial) i 0

  pub record Unaltered (a b : Board) (out out' : List ℕ) : Type 0 where
    -- the numbers and places that the list is given back, by every call
    pub given : (ran way a).given ≡ (ran way b).given
    -- the rows that are marked
    pub rows : (ran way a).rows ≡ (ran way b).rows
    -- the states are still equal, and memories and serial registers still agree in every high byte
    pub boards : Twins (ran way a).after (ran way b).after
    -- the run's number and the state after it
    pub answer : (shown a out).answer ≡ (shown b out').answer
    -- a pixel whose high byte is neither 0 nor 255 shows the same colour
    pub colours : (shown a out).answer.number ≡ 0 → (i : ℕ) → i < clocks → high (word_of a i) ≢ 0 → high (word_of a i) ≢ 255
        → pixel_at i (shown a out).buffer ≡ pixel_at i (shown b out').buffer
