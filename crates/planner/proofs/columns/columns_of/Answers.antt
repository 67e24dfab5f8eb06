-- `planner::columns::columns_of` meets its contract. Assumes nothing.
use Rattle.std.proofs.Common.{arith}
use Rattle.planner.specs.ColumnLaws.{columns_is}
use Rattle.planner.proofs.columns.columns_of.Goals as goal

pub overflow_mul-b : goal.overflow_mul-b
overflow_mul-b c = omega arith

pub overflow_add-a : goal.overflow_add-a
overflow_add-a c = omega arith

pub overflow_mul-c : goal.overflow_mul-c
overflow_mul-c c = omega arith

pub overflow_add-a-2 : goal.overflow_add-a-2
overflow_add-a-2 c = omega arith

pub overflow_mul-d : goal.overflow_mul-d
overflow_mul-d c = omega arith

pub overflow_add-a-3 : goal.overflow_add-a-3
overflow_add-a-3 c = omega arith

pub all_quads-requires : goal.all_quads-requires
all_quads-requires c = omega arith

pub returns : goal.returns
returns c =
    let a = c.args in
    columns_is a.first_column a.end_column a.block _ _ _ _ _
    c.covered-a.ensures.0 c.covered-b.ensures.0 c.covered-c.ensures.0 c.covered-d.ensures.0
    c.all_quads.ensures
