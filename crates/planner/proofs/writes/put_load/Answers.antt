-- `planner::writes::put_load` meets its contract. Assumes nothing.
use Rattle.std.proofs.Common.{arith, length-set}
use Rattle.planner.proofs.writes.put_load.Goals as goal

pub bounds-list-1 : goal.bounds-list-1
bounds-list-1 c = simp length-set (omega arith)

pub bounds-list-2 : goal.bounds-list-2
bounds-list-2 c = simp length-set (omega arith)

pub bounds-list-3 : goal.bounds-list-3
bounds-list-3 c = simp length-set (omega arith)

pub bounds-list-4 : goal.bounds-list-4
bounds-list-4 c = simp length-set (omega arith)
