-- `marks::rows::mark_writes` meets its contract: one turn of the loop is one field. Assumes nothing.
use Rattle.std.proofs.Common.{◌≡◌, true, length}
use Rattle.list.specs.Fields.{fields}
use Rattle.list.specs.Meaning.{readable, cycles_of}
use Rattle.marks.specs.Marks.{marked_by_all}
use Rattle.marks.proofs.rows.mark_writes.Given as goal

abbrev pub invariant-loop-rest : goal.invariant-loop-rest
invariant-loop-rest l =
    (length l.marks ≡ length l.initial.marks) × (readable (fields l.rest) ≡ true) × (marked_by_all (cycles_of l.rest) l.marks ≡ marked_by_all (cycles_of l.list) l.initial.marks)

abbrev pub decreases-loop-rest : goal.decreases-loop-rest
decreases-loop-rest l = length l.rest
