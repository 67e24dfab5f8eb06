-- C's marked runs one after the other, and the rows that a link in C visits. Assumes nothing.
use Rattle.std.specs.Prelude.{ℕ, cond, List, [], ◌∷◌, eqb}
use Rattle.registers.specs.declared.Registers.{Registers}
use Rattle.registers.specs.State.{lawful, taken}
use Rattle.std.specs.Prelude.{Option}
use Rattle.std.specs.Prelude.Option.{None, Some}
use Rattle.marks.specs.Calls.{next_call}
use Rattle.marks.specs.Runs.{Run as Below, Drawn, drawn, in_order}
use Rattle.marks.specs.Walk.{visited_by}
use Rattle.marks_c.specs.declared.Marked.{Marked}
use Rattle.marks_c.specs.Calls.{marked_call, handed_next}

-- a run, with all that it is given beside memory and marks
pub record Run : Type 0 where
  pub state : Registers
  pub serial : List ℕ
  pub list : List ℕ

-- what it leaves of the two
abbrev pub after : Run → Drawn → Drawn
after r d = let o = marked_call r.state d.memory r.serial d.marks r.list in drawn o.memory o.marks

-- runs in order
abbrev pub after_all : List Run → Drawn → Drawn
after_all = in_order after

-- as `marks` has them: those on a state that a `Vram` can be
abbrev pub run_of : Run → Below
run_of r = record { state = taken r.state; serial = r.serial; list = r.list }

unfoldable pub runs_of : List Run → List Below
runs_of [] = []
runs_of (r ∷ rs) = cond (lawful r.state) (run_of r ∷ runs_of rs) (runs_of rs)

-- ---- a link

-- what C reads off an answer: none where found is 0, else the row
abbrev pub found_in : Marked → Option ℕ
found_in m = cond (eqb m.found 0) None (Some m.row)

-- the rows that the header's loop visits, with k calls at most
abbrev pub visited : List ℕ → ℕ → ℕ → List ℕ
visited marks = visited_by (λ start. found_in (handed_next (next_call marks start)))
