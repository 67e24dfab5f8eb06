-- What a list is answered with and what it leaves: document 01, "Lists and fills" and "Numbers given back", and change request M-111. The
-- cycles are known by what `vram` says of them: `refusal`, `loads`, `run`. Assumes nothing.
use Rattle.std.specs.Prelude.{ℕ, ◌+◌, Bool, true, false, cond, List, [], ◌∷◌, eqb, length}
use Rattle.numbers.specs.Refusal.{number_of as number_of_refusal, left_by}
use Rattle.numbers.specs.Refuse.{leaves}
use Rattle.vram.specs.declared.Vram.{Vram}
use Rattle.vram.specs.declared.Cycle.{Cycle}
use Rattle.vram.specs.Board.{Board, board, effect}
use Rattle.vram.specs.Refusal.{refusal}
use Rattle.vram.specs.Kinds.{loads}
use Rattle.vram.specs.Step.{given_of, rows_of, Engine, step_by, run_by}
use Rattle.std.specs.Prelude.{Option, Result}
use Rattle.std.specs.Prelude.Result.{Ok, Err}
use Rattle.std.specs.Prelude.Option.{None, Some}
use Rattle.list.specs.declared.Refused.{Refused}
use Rattle.list.specs.Fields.{Field, Reads, Unreadable, size_of, fields}
use Rattle.list.specs.Open.{open_after}

-- ---- a field

-- its number: 4, or what refuses its cycle
unfoldable pub number_of : ℕ → Bool → Field → ℕ
number_of rows made (Reads c n) = refusal rows made c
number_of rows made Unreadable = 4

-- whether a full transfer has been made, after it
unfoldable pub made_by : Field → Bool → Bool
made_by (Reads c n) made = loads c made
made_by Unreadable made = made

-- ---- fields in order

-- the number that a list is refused with and the offset of the field that it is about; zeros where nothing is refused
pub record Bad : Type 0 where
  pub number : ℕ
  pub place : ℕ

abbrev pub bad : ℕ → ℕ → Bad
bad number place = record { number = number; place = place }

-- what the field at an offset gives, where its number is this
abbrev pub bad_at : ℕ → ℕ → Bad
bad_at number place = cond (eqb number 0) (bad 0 0) (bad number place)

-- what an answer says of a list
abbrev pub bad_of : {T : Type 0} → Result T Refused → Bad
bad_of (Ok _) = bad 0 0
bad_of (Err refused) = bad (number_of_refusal refused.refusal) refused.place

-- the first field that is refused: its number and its offset. `at` is the offset of the first field given
unfoldable pub verdict : ℕ → Bool → ℕ → List Field → Bad
verdict rows made at [] = bad 0 0
verdict rows made at (f ∷ fs) =
    cond (eqb (number_of rows made f) 0)
    (verdict rows (made_by f made) (at + size_of f) fs)
    (bad (number_of rows made f) at)

-- their cycles
unfoldable pub cycles : List Field → List Cycle
cycles [] = []
cycles (Reads c n ∷ fs) = c ∷ cycles fs
cycles (Unreadable ∷ fs) = cycles fs

-- no field is one that cannot be read
unfoldable pub readable : List Field → Bool
readable [] = true
readable (Reads c n ∷ fs) = readable fs
readable (Unreadable ∷ fs) = false

-- ---- what is left behind

-- 20 for an open mask load, at its offset
unfoldable pub left_behind : Option ℕ → Bad
left_behind None = bad 0 0
left_behind (Some place) = bad 20 place

-- of two verdicts the first that refuses
unfoldable pub first_bad : Bad → Bad → Bad
first_bad v later = cond (eqb v.number 0) later v

-- fields in order, and then what they leave behind. `made`, `left` and `at` are what those before them have left
unfoldable pub judged : ℕ → Bool → Option ℕ → ℕ → List Field → Bad
judged rows made left at fs = first_bad (verdict rows made at fs) (left_behind (open_after at fs left))

-- ---- a list

abbrev pub cycles_of : List ℕ → List Cycle
cycles_of list = cycles (fields list)

-- how many fields it has
abbrev pub count_of : List ℕ → ℕ
count_of list = length (fields list)

-- three steps: 1 to 3, with place 0; its fields in order; what they leave behind
unfoldable pub verdict_of : List ℕ → Board → Bad
verdict_of list b = first_bad (bad (given_of b) 0) (judged (rows_of b) b.state.loaded None 0 (fields list))

-- ---- the call

-- number and place, and the board afterwards
pub record Outcome : Type 0 where
  pub given : Bad
  pub after : Board

abbrev pub gives : Bad → Board → Outcome
gives v b = record { given = v; after = b }

-- the state after a list, the number given back, and the offset of the field that it is about
pub record Ran : Type 0 where
  pub state : Vram
  pub number : ℕ
  pub place : ℕ

-- what a list answers, of the state before it
abbrev pub ran_by : Vram → Result Vram Refused → Ran
ran_by before answer = record { state = left_by before answer; number = (bad_of answer).number; place = (bad_of answer).place }

abbrev pub outcome : Ran → List ℕ → List ℕ → Outcome
outcome r m q = gives (bad r.number r.place) (board r.state m q)

-- checked whole, then run in order by an engine; a refusal changes nothing
unfoldable pub run_call_by : Engine → List ℕ → Board → Outcome
run_call_by e list b = gives (verdict_of list b) (leaves (verdict_of list b).number b (run_by (step_by e) (cycles_of list) b))

-- by the engine of the rules
abbrev pub run_call : List ℕ → Board → Outcome
run_call = run_call_by effect
