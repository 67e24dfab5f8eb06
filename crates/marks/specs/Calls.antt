-- What each call answers and leaves: change request M-104. Assumes nothing.
use Rattle.std.specs.Prelude.{ℕ, ◌-◌, Bool, cond, List, eqb, leb, length}
use Rattle.numbers.specs.declared.Refusal.{Refusal}
use Rattle.numbers.specs.Refusal.{given_back, left_by}
use Rattle.numbers.specs.Refuse.{refuse, first_of, leaves}
use Rattle.vram.specs.Board.{Board, board, effect}
use Rattle.vram.specs.Step.{given_of, Engine, step_by, run_by}
use Rattle.list.specs.Meaning.{Bad}
use Rattle.list.specs.Meaning.{Ran}
use Rattle.std.specs.Prelude.Option.{None, None as Closed, Some}
use Rattle.list.specs.Fields.{fields}
use Rattle.list.specs.Meaning.{bad, first_bad, judged, cycles_of, verdict_of as list_verdict}
use Rattle.std.specs.Prelude.{Option, Result}
use Rattle.marks.specs.Marks.{no_marks, marked_by_all, first_marked}

-- 18: so many bytes are not a mark for each of 512 rows
unfoldable pub length_number : ℕ → ℕ
length_number bytes = refuse (eqb bytes 64) 18 0

-- ---- a list with marks

-- 1 to 3, and 18, with place 0; then what refuses the list
unfoldable pub verdict_of : List ℕ → Board → ℕ → Bad
verdict_of list b bytes = first_bad (bad (given_of b) 0) (first_bad (bad (length_number bytes) 0) (list_verdict list b))

-- number and place, the board and the marks afterwards
pub record Outcome : Type 0 where
  pub given : Bad
  pub after : Board
  pub marks : List ℕ

abbrev pub gives : Bad → Board → List ℕ → Outcome
gives v b marks = record { given = v; after = b; marks = marks }

abbrev pub outcome : Ran → List ℕ → List ℕ → List ℕ → Outcome
outcome r m q marks = gives (bad r.number r.place) (board r.state m q) marks

-- checked whole, then run in order by an engine, and the rows that its writes name are marked; a refusal changes nothing
unfoldable pub run_call_by : Engine → List ℕ → Board → List ℕ → Outcome
run_call_by e list b marks =
    let v = verdict_of list b (length marks) in
    gives v (leaves v.number b (run_by (step_by e) (cycles_of list) b)) (leaves v.number marks (marked_by_all (cycles_of list) marks))

-- by the engine of the rules
abbrev pub run_call : List ℕ → Board → List ℕ → Outcome
run_call = run_call_by effect

-- ---- a list checked and marked, for an engine that runs it itself

-- number and place, and the marks afterwards
pub record Noted : Type 0 where
  pub given : Bad
  pub marks : List ℕ

abbrev pub noted : Bad → List ℕ → Noted
noted v marks = record { given = v; marks = marks }

-- 18 with place 0, then what refuses the list's fields; where nothing does, the rows that its writes name are marked
unfoldable pub mark_call : List ℕ → ℕ → Bool → List ℕ → Noted
mark_call list rows made marks =
    let v = first_bad (bad (length_number (length marks)) 0) (judged rows made Closed 0 (fields list)) in
    noted v (leaves v.number marks (marked_by_all (cycles_of list) marks))

-- ---- all marks cleared

-- the number, and the marks afterwards
pub record Cleared : Type 0 where
  pub number : ℕ
  pub marks : List ℕ

abbrev pub cleared : ℕ → List ℕ → Cleared
cleared n marks = record { number = n; marks = marks }

unfoldable pub clear_call : List ℕ → Cleared
clear_call marks = cleared (length_number (length marks)) (leaves (length_number (length marks)) marks no_marks)

-- ---- the next marked row

-- 18, then 5
unfoldable pub next_number : ℕ → ℕ → ℕ
next_number bytes start = first_of (length_number bytes) (refuse (leb start 511) 5 0)

-- the number given back, and what is found: none where the call is refused
pub record Marked : Type 0 where
  pub number : ℕ
  pub found : Option ℕ

abbrev pub answers : ℕ → Option ℕ → Marked
answers n found = record { number = n; found = found }

-- what a call answers
abbrev pub next_by : Result (Option ℕ) Refusal → Marked
next_by answer = answers (given_back answer) (left_by None answer)

-- of the rows from the start on, itself included, the first that is marked; none where the call is refused
unfoldable pub next_call : List ℕ → ℕ → Marked
next_call marks start =
    let n = next_number (length marks) start in
    answers n (leaves n None (first_marked marks start (512 - start)))

-- document 01's number and values for each case of what is found: found, 0 none and 1 a row; and the row
pub record Values : Type 0 where
  pub number : ℕ
  pub found : ℕ
  pub row : ℕ

abbrev pub values : ℕ → ℕ → ℕ → Values
values number found row = record { number = number; found = found; row = row }

unfoldable pub values_of : Option ℕ → Values
values_of None = values 0 0 0
values_of (Some r) = values 0 1 r

-- of an answer: a refusal's number, with zeros besides, or what is found
unfoldable pub answered : Marked → Values
answered m = cond (eqb m.number 0) (values_of m.found) (values m.number 0 0)
