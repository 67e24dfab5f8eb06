-- What a page answers and leaves, for every input: change request M-103. A refusal answers zeros besides and changes nothing. Assumes nothing.
use Rattle.std.specs.Prelude.{ℕ, ◌+◌, ◌&&◌, cond, List, [], ◌∷◌, ◌++◌, eqb, leb, length, take, Option, Result}
use Rattle.std.specs.Prelude.Result.{Ok, Err}
use Rattle.numbers.specs.declared.Refusal.{Refusal}
use Rattle.numbers.specs.Refusal.{number_of as number_of_refusal}
use Rattle.numbers.specs.Refuse.{refuse, leaves}
use Rattle.numbers.specs.Buffer.{over}
use Rattle.vram.specs.declared.Cycle.{Cycle}
use Rattle.list.specs.declared.Refused.{Refused}
use Rattle.list.specs.Meaning.{Bad, bad, first_bad}
use Rattle.list.specs.Encode.{encode_all}
use Rattle.planner.specs.Fill.{Fill, plan}
use Rattle.planner.specs.declared.Filled.{Filled}
use Rattle.planner.specs.Calls.{rectangle_ok, measure_call}
use Rattle.page.specs.declared.Paged.{Paged}
use Rattle.page.specs.declared.Totals.{Totals}
use Rattle.page.specs.Rooms.{takes, room_number}
use Rattle.page.specs.Rectangles.{Item, Names, Unreadable, items, fill_of}

-- ---- the fills, and their lists joined

unfoldable pub fills : ℕ → List Item → List Fill
fills rows [] = []
fills rows (Names r ∷ l) = fill_of rows r ∷ fills rows l
fills rows (Unreadable ∷ l) = fills rows l

-- of a page's bytes
abbrev pub fills_of : ℕ → List ℕ → List Fill
fills_of rows rectangles = fills rows (items rectangles)

unfoldable pub plans : List Fill → List Cycle
plans [] = []
plans (f ∷ fs) = plan f ++ plans fs

abbrev pub joined : List Fill → List ℕ
joined fs = encode_all (plans fs)

-- ---- what refuses a page

-- a field's number: 4, or 12 for a start past its end or an end past 512 columns or the rows fitted
unfoldable pub number_of : ℕ → Item → ℕ
number_of rows (Names r) = refuse (rectangle_ok (fill_of rows r)) 12 0
number_of rows Unreadable = 4

-- the first field that is refused: its number and its offset. `at` is the offset of the first field given; each takes 15 bytes
unfoldable pub verdict : ℕ → ℕ → List Item → Bad
verdict rows at [] = bad 0 0
verdict rows at (i ∷ l) = cond (eqb (number_of rows i) 0) (verdict rows (at + 15) l) (bad (number_of rows i) at)

-- 2; then 4 and 12 by the first bad field, with its offset; then 13; then 15 for the joined length
unfoldable pub page_refusal : ℕ → ℕ → List ℕ → ℕ → Bad
page_refusal rows persistent rectangles room =
    first_bad (bad (refuse (leb 1 rows && leb rows 512) 2 0) 0)
    (first_bad (verdict rows 0 (items rectangles))
    (bad (refuse (eqb persistent 0) 13 (refuse (leb (length (joined (fills_of rows rectangles))) room) 15 0)) 0))

-- its steps after the first, for fields that others may have come before: `room` and `at` are what those have left
unfoldable pub judged : ℕ → ℕ → Option ℕ → ℕ → List Item → Bad
judged rows persistent room at l =
    first_bad (verdict rows at l) (bad (refuse (eqb persistent 0) 13 (room_number (takes room (length (joined (fills rows l)))))) 0)

-- what the code has of a field: 4, or what its fill answers where there is room enough
unfoldable pub measured : ℕ → Item → Filled
measured rows (Names r) = measure_call (fill_of rows r)
measured rows Unreadable = record { number = 4; bytes = 0; cycles = 0 }

-- a field's answer without its offset
abbrev pub unplaced : {T : Type 0} → Result T Refused → Result T Refusal
unplaced (Ok made) = Ok made
unplaced (Err bad) = Err bad.refusal

-- ---- the call

-- what is answered, and the buffer afterwards
pub record Outcome : Type 0 where
  pub answer : Paged
  pub buffer : List ℕ

abbrev pub outcome : Paged → List ℕ → Outcome
outcome r out = record { answer = r; buffer = out }

-- a refusal: zeros besides
abbrev pub refused : ℕ → ℕ → Paged
refused number place = record { number = number; place = place; bytes = 0; cycles = 0 }

-- what C is answered: the totals of a list, or what refuses it
abbrev pub paged_by : Result Totals Refused → Paged
paged_by (Ok totals) = record { number = 0; place = 0; bytes = totals.bytes; cycles = totals.cycles }
paged_by (Err bad) = refused (number_of_refusal bad.refusal) bad.place

-- a list of so many cycles at the start of the buffer, where v refuses nothing
abbrev pub page_answer : Bad → List ℕ → ℕ → List ℕ → Outcome
page_answer v bytes cycles out =
    outcome
    (record { number = v.number; place = v.place; bytes = leaves v.number 0 (length bytes); cycles = leaves v.number 0 cycles })
    (leaves v.number out (over bytes out))

unfoldable pub page_call : ℕ → ℕ → List ℕ → List ℕ → Outcome
page_call rows persistent rectangles out =
    let fs = fills_of rows rectangles in
    page_answer (page_refusal rows persistent rectangles (length out)) (joined fs) (length (plans fs)) out

-- the bytes that a page has written
abbrev pub list_in : Outcome → List ℕ
list_in o = take o.answer.bytes o.buffer
