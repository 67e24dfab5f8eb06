-- `planner::writes::put_rest` meets its contract. Assumes nothing.
use Rattle.std.proofs.Common.{arith, length-set, [], ◌∷◌, ◌/◌, ◌%◌}
use Rattle.numbers.specs.BufferLaws.{stores_sets}
use Rattle.planner.proofs.writes.put_rest.Goals as goal

pub bounds-list-at-2 : goal.bounds-list-at-2
bounds-list-at-2 c = simp length-set (omega arith)

pub bounds-list-at-3 : goal.bounds-list-at-3
bounds-list-at-3 c = simp length-set (omega arith)

pub bounds-list-at-4 : goal.bounds-list-at-4
bounds-list-at-4 c = simp length-set (omega arith)

pub bounds-list-at-5 : goal.bounds-list-at-5
bounds-list-at-5 c = simp length-set (omega arith)

pub bounds-list-at-6 : goal.bounds-list-at-6
bounds-list-at-6 c = simp length-set (omega arith)

pub returns : goal.returns
returns c =
    let a = c.args in
    stores_sets (a.value / 256) a.list.now (a.value % 256 ∷ 1 ∷ a.mask / 256 ∷ a.mask % 256 ∷ 3 ∷ []) a.at
