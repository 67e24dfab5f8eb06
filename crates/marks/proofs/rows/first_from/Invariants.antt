-- `marks::rows::first_from` meets its contract. Assumes nothing.
use Rattle.std.proofs.Common.{◌≡◌, ◌-◌, ◌≤◌}
use Rattle.marks.specs.Marks.{first_marked}
use Rattle.marks.proofs.rows.first_from.Given as goal

abbrev pub invariant-loop-row : goal.invariant-loop-row
invariant-loop-row l = (l.row ≤ 512) × (first_marked l.marks l.row (512 - l.row) ≡ first_marked l.marks l.start (512 - l.start))

abbrev pub decreases-loop-row : goal.decreases-loop-row
decreases-loop-row l = 512 - l.row
