-- `planner::writes::put_tag` meets its contract. Assumes nothing.
use Rattle.std.proofs.Common.{arith, length-set, [], ◌∷◌}
use Rattle.numbers.specs.BufferLaws.{stores_sets}
use Rattle.planner.proofs.writes.put_tag.Goals as goal

pub bounds-list-at-2 : goal.bounds-list-at-2
bounds-list-at-2 c = simp length-set (omega arith)

pub bounds-list-at-3 : goal.bounds-list-at-3
bounds-list-at-3 c = simp length-set (omega arith)

pub returns : goal.returns
returns c =
    let a = c.args in
    stores_sets a.tag a.list.now (0 ∷ 10 ∷ []) a.at
