-- What each public call answers and leaves, for every input. A refusal answers zeros besides and changes nothing. Assumes nothing.
use Rattle.std.specs.Prelude.{◌≡◌, ℕ, ◌+◌, ◌*◌, ◌||◌, List, length, Result, ◌==◌, nat_le, slice_index}
use Rattle.numbers.specs.declared.Refusal.{Refusal}
use Rattle.numbers.specs.Refusal.{given_back, left_by}
use Rattle.numbers.specs.Refuse.{refuse, leaves}
use Rattle.words.specs.Word.{merged, covers}
use Rattle.vram.specs.declared.Vram.{Vram}
use Rattle.vram.specs.declared.Cycle.{Cycle}
use Rattle.vram.specs.declared.Word.{Word}
use Rattle.vram.specs.State.{ruled}
use Rattle.vram.specs.Board.{Board, board}
use Rattle.vram.specs.Refusal.{word_read_refusal}
use Rattle.vram.specs.Step.{number, step}
use Rattle.vram.specs.Serial.{through, clock, clocks}

-- the state after a call, and the number given back
pub record Answered : Type 0 where
  pub state : Vram
  pub number : ℕ

abbrev pub answered : ℕ → Vram → Answered
answered n s = record { state = s; number = n }

-- what a call answers, of the state before it
abbrev pub answered_by : Vram → Result Vram Refusal → Answered
answered_by before answer = answered (given_back answer) (left_by before answer)

-- the number, with the state as it was where it refuses, else as the call makes it
abbrev pub answers : ℕ → Vram → Vram → Answered
answers n s made = answered n (leaves n s made)

-- ---- a cycle

-- the number given back, and the board afterwards
pub record Outcome : Type 0 where
  pub given : ℕ
  pub after : Board

abbrev pub outcome : Answered → List ℕ → List ℕ → Outcome
outcome r m q = record { given = r.number; after = board r.state m q }

unfoldable pub cycle_call : Cycle → Board → Outcome
cycle_call c b = record { given = number c b; after = step c b }

-- a write, of the memory: as it was where n refuses, else as the write makes it
pub record Wrote (n : ℕ) (s : Vram) (m written : List ℕ) (given : Answered) (left : List ℕ) : Type 0 where
  pub answer : given ≡ answers n s s
  pub memory : left ≡ leaves n m written

-- a transfer, of the state and the serial register: each as it was where n refuses, else as the transfer makes it
pub record Transferred (n : ℕ) (s made : Vram) (r copied : List ℕ) (given : Answered) (left : List ℕ) : Type 0 where
  pub answer : given ≡ answers n s made
  pub serial : left ≡ leaves n r copied

-- ---- a word read

abbrev pub word_read_by : Result ℕ Refusal → Word
word_read_by answer = record { number = given_back answer; word = left_by 0 answer }

unfoldable pub word_read_call : List ℕ → ℕ → ℕ → ℕ → Word
word_read_call m row column strobes =
    let n = word_read_refusal (length m) row column strobes in
    record { number = n; word = leaves n 0 (merged 0 (slice_index m (512 * row + column)) (covers strobes)) }

-- ---- a serial clock

-- the state after it, the word answered, and the number given back
pub record Clocked : Type 0 where
  pub state : Vram
  pub word : ℕ
  pub number : ℕ

abbrev pub clocked_by : Vram → Result (Vram × ℕ) Refusal → Clocked
clocked_by before answer = record {
  state = (left_by (before, 0) answer).0;
  word = (left_by (before, 0) answer).1;
  number = given_back answer;
}

unfoldable pub clock_refusal : Vram → ℕ → ℕ
clock_refusal s serial = refuse (ruled s) 1 (refuse (serial == 256) 3 (refuse s.loaded 10 0))

unfoldable pub clock_call : Vram → List ℕ → Clocked
clock_call s r =
    let n = clock_refusal s (length r) in
    record { state = leaves n s (clock s); word = leaves n 0 (slice_index r s.pointer); number = n }

-- ---- the state after k clocks, and how many more lead through the end of its partition; none asks for a full transfer

unfoldable pub clocks_refusal : Vram → ℕ → ℕ
clocks_refusal s k = refuse (ruled s) 1 (refuse (k == 0 || s.loaded) 10 (refuse (nat_le k 512) 14 0))

-- the state after them, the clocks to the end of its partition, and the number given back
pub record Moved : Type 0 where
  pub state : Vram
  pub through : ℕ
  pub number : ℕ

abbrev pub moved_by : Vram → Result (Vram × ℕ) Refusal → Moved
moved_by before answer = record {
  state = (left_by (before, 0) answer).0;
  through = (left_by (before, 0) answer).1;
  number = given_back answer;
}

abbrev pub moved_to : ℕ → Vram → ℕ → Moved
moved_to n s through = record { state = s; through = through; number = n }

unfoldable pub clocks_call : Vram → ℕ → Moved
clocks_call s k = let n = clocks_refusal s k in moved_to n (leaves n s (clocks k s)) (leaves n 0 (through (clocks k s)))
