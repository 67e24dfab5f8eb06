-- What a report answers and leaves, for every list: document 01, "The program `play`". Assumes nothing.
use Rattle.std.specs.Prelude.{ℕ, cond, List, leb, length, replicate, Result}
use Rattle.numbers.specs.declared.Refusal.{Refusal}
use Rattle.numbers.specs.Refusal.{given_back, left_by}
use Rattle.numbers.specs.Refuse.{refuse, leaves}
use Rattle.numbers.specs.Buffer.{over}
use Rattle.vram.specs.State.{fresh}
use Rattle.vram.specs.Board.{Board, board}
use Rattle.list.specs.Meaning.{Outcome, run_call}
use Rattle.report.specs.Text.{all_lines, too_long}

-- 64 rows of zeros and a fresh state
abbrev pub start : Board
start = board fresh (replicate 32768 0) (replicate 256 0)

-- the lines of what a run answers and leaves
abbrev pub lines_of : Outcome → List ℕ
lines_of o = all_lines o.given.number o.given.place o.after.memory

unfoldable pub text_of : List ℕ → List ℕ
text_of list = cond (leb (length list) 4096) (lines_of (run_call list start)) too_long

-- ---- a text at the start of a buffer, with room for it; spare bytes stay

-- the number given back, and how many bytes the text has
pub record Reported : Type 0 where
  pub number : ℕ
  pub bytes : ℕ

abbrev pub reported_by : Result ℕ Refusal → Reported
reported_by answer = record { number = given_back answer; bytes = left_by 0 answer }

pub record Told : Type 0 where
  pub answer : Reported
  pub buffer : List ℕ

abbrev pub told : Reported → List ℕ → Told
told r text = record { answer = r; buffer = text }

unfoldable pub tell : List ℕ → List ℕ → Told
tell bytes text =
    let n = refuse (leb (length bytes) (length text)) 15 0 in
    told (record { number = n; bytes = leaves n 0 (length bytes) }) (leaves n text (over bytes text))

-- ---- the call

unfoldable pub report_call : List ℕ → List ℕ → Told
report_call list text = tell (text_of list) text
