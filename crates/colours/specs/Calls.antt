-- What each call answers and leaves, for every input: change request M-112. A refusal answers zeros besides and changes nothing.
-- Assumes nothing.
use Rattle.std.specs.Prelude.{ℕ, Bool, true, ◌&&◌, List, Result, eqb, leb, length, set}
use Rattle.numbers.specs.declared.Refusal.{Refusal}
use Rattle.numbers.specs.Refusal.{given_back, left_by}
use Rattle.numbers.specs.Refuse.{refuse, leaves}
use Rattle.colours.specs.declared.Colours.{Colours}
use Rattle.std.specs.Prelude.Option.{None, Some}
use Rattle.colours.specs.declared.Output.{Output}
use Rattle.colours.specs.declared.Inputs.{Inputs}
use Rattle.colours.specs.declared.Word.{Word}
use Rattle.colours.specs.declared.Byte.{Byte}
use Rattle.colours.specs.Table.{word_at, low_of, high_of, joined}
use Rattle.colours.specs.Output.{asks, zeros}
use Rattle.colours.specs.State.{with_waiting, moved, waits, low_waiting, ruled}

-- ---- what refuses a call

-- 3 table not 64 words, 21 address over 63 or data over 8,191, 22 no low part waiting, where one is needed
abbrev pub table_refusal : ℕ → Bool → Bool → ℕ
table_refusal words within waits = refuse (eqb words 64) 3 (refuse within 21 (refuse waits 22 0))

-- 1 a state the rules exclude; then what the later tests say
abbrev pub state_refusal : Colours → ℕ → ℕ
state_refusal s later = refuse (ruled s) 1 later

unfoldable pub write_refusal : Colours → ℕ → ℕ → ℕ → ℕ
write_refusal s words address value = state_refusal s (table_refusal words (leb address 63 && leb value 8191) true)

unfoldable pub low_refusal : Colours → ℕ
low_refusal s = state_refusal s 0

unfoldable pub high_refusal : Colours → ℕ → ℕ → ℕ
high_refusal s words address = state_refusal s (table_refusal words (leb address 63) (waits s.waiting))

-- of a read, and of what a pixel asks for: its address is judged whether a colour is shown or not
unfoldable pub read_refusal : ℕ → ℕ → ℕ
read_refusal words address = table_refusal words (leb address 63) true

unfoldable pub pixel_refusal : Colours → ℕ → ℕ → ℕ
pixel_refusal s words address = state_refusal s (read_refusal words address)

-- ---- writes

-- the state after a write, and the number given back
pub record Coloured : Type 0 where
  pub state : Colours
  pub number : ℕ

abbrev pub coloured : ℕ → Colours → Coloured
coloured n s = record { state = s; number = n }

-- of the answer to a write: refused, the state is that from before
abbrev pub coloured_by : Colours → Result Colours Refusal → Coloured
coloured_by before answer = coloured (given_back answer) (left_by before answer)

-- what is answered, and the table afterwards
pub record Outcome : Type 0 where
  pub answer : Coloured
  pub table : List ℕ

abbrev pub outcome : Coloured → List ℕ → Outcome
outcome r t = record { answer = r; table = t }

-- a number, and the state and the table that are left
abbrev pub written : ℕ → Colours → List ℕ → Colours → List ℕ → Outcome
written n s t s' t' = outcome (coloured n (leaves n s s')) (leaves n t t')

-- 16 bits: the word is stored, and a low part that waits is dropped
unfoldable pub write_call : Colours → List ℕ → ℕ → ℕ → Outcome
write_call s t address value = written (write_refusal s (length t) address value) s t (with_waiting s None) (set t address value)

-- the low part waits, in the place of one that waited
unfoldable pub write_low_call : Colours → ℕ → Coloured
write_low_call s low = coloured (low_refusal s) (leaves (low_refusal s) s (with_waiting s (Some low)))

-- the high part, with the low one that waits, is stored at the address given with it; nothing waits then
unfoldable pub write_high_call : Colours → List ℕ → ℕ → ℕ → Outcome
write_high_call s t address high =
    written (high_refusal s (length t) address) s t (with_waiting s None) (set t address (joined (low_waiting s.waiting) high))

-- ---- reads

abbrev pub worded : ℕ → ℕ → Word
worded n word = record { number = n; word = word }

-- of the answer to a read: refused, the word is 0
abbrev pub read_by : Result ℕ Refusal → Word
read_by answer = worded (given_back answer) (left_by 0 answer)

unfoldable pub read_call : List ℕ → ℕ → Word
read_call t address = let n = read_refusal (length t) address in worded n (leaves n 0 (word_at t address))

abbrev pub byted : ℕ → ℕ → Byte
byted n byte = record { number = n; byte = byte }

-- the parts of what a 16-bit read answers, so 0 where it is refused
unfoldable pub read_low_call : List ℕ → ℕ → Byte
read_low_call t address = let r = read_call t address in byted r.number (low_of r.word)

unfoldable pub read_high_call : List ℕ → ℕ → Byte
read_high_call t address = let r = read_call t address in byted r.number (high_of r.word)

-- ---- a pixel

-- what the inputs ask for, with the table as they enter
abbrev pub asks_at : List ℕ → Inputs → Output
asks_at t i = asks i (word_at t i.address)

-- what the inputs of a pixel ask for, and the number given back
pub record Asked : Type 0 where
  pub number : ℕ
  pub output : Output

abbrev pub asked_for : ℕ → Output → Asked
asked_for n out = record { number = n; output = out }

-- of the answer to what is asked for: refused, zeros
abbrev pub asked_by : Result Output Refusal → Asked
asked_by answer = asked_for (given_back answer) (left_by zeros answer)

unfoldable pub ask_call : List ℕ → Inputs → Asked
ask_call t i = let n = read_refusal (length t) i.address in asked_for n (leaves n zeros (asks_at t i))

-- the state after a pixel, what came out, and the number given back
pub record Emitted : Type 0 where
  pub state : Colours
  pub output : Output
  pub number : ℕ

abbrev pub emitted : ℕ → Colours → Output → Emitted
emitted n s out = record { state = s; output = out; number = n }

-- of the answer to a pixel: refused, the state from before, and zeros
abbrev pub shown_by : Colours → Result (Colours × Output) Refusal → Emitted
shown_by before answer = let left = left_by (before, zeros) answer in emitted (given_back answer) left.0 left.1

-- the first on its way comes out, and what is asked for enters the pipe
unfoldable pub pixel_call : Colours → List ℕ → Inputs → Emitted
pixel_call s t i =
    let n = pixel_refusal s (length t) i.address in
    emitted n (leaves n s (moved s (asks_at t i))) (leaves n zeros s.first)
