-- `planner::area` meets its contract. Assumes nothing.
use Rattle.std.proofs.Common.{refl, mul-le-mul, arith}
use Rattle.planner.proofs.area.Goals as goal

pub overflow_mul-result : goal.overflow_mul-result
overflow_mul-result c = omega (arith, mul-le-mul c.requires.0 c.requires.1)

pub returns : goal.returns
returns c = (refl, mul-le-mul c.requires.0 c.requires.1)
