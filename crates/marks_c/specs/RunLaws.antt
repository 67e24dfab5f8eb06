-- C's marked runs are those of `marks`, but for those on a state that no `Vram` can be, which leave memory and marks as they were; and C's
-- link visits the rows that a link below visits. Assumes nothing.
use Rattle.std.specs.Prelude.{ℕ, ◌≡◌, refl, Bool, true, false, cond, List, [], ◌∷◌, eqb}
use Rattle.std.proofs.Common.{sym, ap, ◌∙◌}
use Rattle.registers.specs.State.{lawful}
use Rattle.std.specs.Prelude.{Option}
use Rattle.std.specs.Prelude.Option.{None, Some}
use Rattle.marks.specs.Calls.{next_call, Values, values, values_of}
use Rattle.marks.proofs.CallLaws.{values_none, values_row, answered_is}
use Rattle.marks.specs.Runs.{Drawn, after as below_after, after_all as below_after_all}
use Rattle.marks.proofs.RunLaws.{order_none, order_next}
use Rattle.marks.specs.Walk.{visited as below_visited}
use Rattle.marks.proofs.WalkLaws.{visited_same}
use Rattle.marks_c.specs.Calls.{marked_call_by, handed_next}
use Rattle.marks_c.specs.Runs.{Run, after, after_all, run_of, runs_of, found_in, visited}

-- ---- runs

after_lawful : (r : Run) (d : Drawn) → lawful r.state ≡ true → after r d ≡ below_after (run_of r) d
unfolding marked_call_by
after_lawful r d h = rw h

after_excluded : (r : Run) (d : Drawn) → lawful r.state ≡ false → after r d ≡ d
unfolding marked_call_by
after_excluded r d h = rw h

pub runs_below : (rs : List Run) (d : Drawn) → after_all rs d ≡ below_after_all (runs_of rs) d
unfolding runs_of
runs_below [] d = order_none after d ∙ sym (order_none below_after d)
runs_below (r ∷ rs) d = order_next after r rs d ∙ runs_below rs (after r d) ∙ go (lawful r.state) refl
  where
    go : (t : Bool) → lawful r.state ≡ t → below_after_all (runs_of rs) (after r d) ≡ below_after_all (cond t (run_of r ∷ runs_of rs) (runs_of rs)) d
    go true h = ap (below_after_all (runs_of rs)) (after_lawful r d h) ∙ sym (order_next below_after (run_of r) (runs_of rs) d)
    go false h = ap (below_after_all (runs_of rs)) (after_excluded r d h)

-- ---- a link

-- what C reads off an answer is what `next` finds, also where it is refused
pub found_below : (marks : List ℕ) (start : ℕ) → found_in (handed_next (next_call marks start)) ≡ (next_call marks start).found
unfolding handed_next
found_below marks start = ap reads (answered_is marks start) ∙ case (next_call marks start).number (next_call marks start).found
  where
    reads : Values → Option ℕ
    reads v = cond (eqb v.found 0) None (Some v.row)

    case : (n : ℕ) (f : Option ℕ) → reads (values n (values_of f).found (values_of f).row) ≡ f
    case n None = rw values_none
    case n (Some r) = rw (values_row r)

pub walk_below : (marks : List ℕ) (k start : ℕ) → visited marks k start ≡ below_visited marks k start
walk_below marks = visited_same (λ s. found_in (handed_next (next_call marks s))) (λ s. (next_call marks s).found) (found_below marks)
