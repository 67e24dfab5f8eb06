-- What a fill answers and leaves, for every input. A refusal answers zeros besides and changes nothing. Assumes nothing.
use Rattle.std.specs.Prelude.{ℕ, Bool, ◌&&◌, List, eqb, leb, length, Result}
use Rattle.std.specs.Prelude.Result.{Ok, Err}
use Rattle.numbers.specs.declared.Refusal.{Refusal}
use Rattle.numbers.specs.Refusal.{number_of}
use Rattle.numbers.specs.Refuse.{refuse, leaves}
use Rattle.numbers.specs.Buffer.{over}
use Rattle.list.specs.Encode.{encode_all}
use Rattle.planner.specs.declared.Counts.{Counts}
use Rattle.planner.specs.declared.Filled.{Filled}
use Rattle.planner.specs.Fill.{Fill, plan}

-- the list's bytes
abbrev pub list_of : Fill → List ℕ
list_of f = encode_all (plan f)

-- ---- what refuses it

-- rows fitted are 1 to 512
abbrev pub rows_ok : Fill → Bool
rows_ok f = leb 1 f.rows && leb f.rows 512

-- no start past its end, and no end past 512 columns or the rows fitted
abbrev pub rectangle_ok : Fill → Bool
rectangle_ok f =
    ((leb f.first_row f.end_row && leb f.first_column f.end_column) && leb f.end_column 512) && leb f.end_row f.rows

abbrev pub plain_ok : Fill → Bool
plain_ok f = eqb f.persistent 0

-- the buffer has room for the list
abbrev pub room_ok : Fill → ℕ → Bool
room_ok f room = leb (length (list_of f)) room

unfoldable pub fill_refusal : Fill → ℕ → ℕ
fill_refusal f room = refuse (rows_ok f) 2 (refuse (rectangle_ok f) 12 (refuse (plain_ok f) 13 (refuse (room_ok f room) 15 0)))

-- ---- the call

-- what is answered, and the buffer afterwards
pub record Outcome : Type 0 where
  pub answer : Filled
  pub buffer : List ℕ

abbrev pub outcome : Filled → List ℕ → Outcome
outcome r out = record { answer = r; buffer = out }

-- what C is answered: the counts of a list, or the number of what refuses it and zeros
abbrev pub filled_by : Result Counts Refusal → Filled
filled_by (Ok counts) = record { number = 0; bytes = counts.bytes; cycles = counts.cycles }
filled_by (Err refusal) = record { number = number_of refusal; bytes = 0; cycles = 0 }

-- a number, and the counts where it refuses nothing
abbrev pub answered : ℕ → ℕ → ℕ → Filled
answered n bytes cycles = record { number = n; bytes = leaves n 0 bytes; cycles = leaves n 0 cycles }

-- a list of so many cycles at the start of the buffer, where n refuses nothing
abbrev pub fill_answer : ℕ → List ℕ → ℕ → List ℕ → Outcome
fill_answer n bytes cycles out = outcome (answered n (length bytes) cycles) (leaves n out (over bytes out))

unfoldable pub fill_call : Fill → List ℕ → Outcome
fill_call f out = fill_answer (fill_refusal f (length out)) (list_of f) (length (plan f)) out

-- ---- its two parts: what is asked is refused before a byte is written, and then the buffer is asked

unfoldable pub asked_refusal : Fill → ℕ
asked_refusal f = refuse (rows_ok f) 2 (refuse (rectangle_ok f) 12 (refuse (plain_ok f) 13 0))

-- a list at the start of the buffer, where there is room for it
abbrev pub stored : List ℕ → ℕ → List ℕ → Outcome
stored bytes cycles out = fill_answer (refuse (leb (length bytes) (length out)) 15 0) bytes cycles out

-- ---- a fill that is only measured: what it answers where there is room enough

unfoldable pub measure_call : Fill → Filled
measure_call f = answered (asked_refusal f) (length (list_of f)) (length (plan f))
