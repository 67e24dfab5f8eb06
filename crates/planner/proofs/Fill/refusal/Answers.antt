-- `planner::Fill::refusal` meets its contract. Assumes nothing.
use Rattle.std.proofs.Common.{sym}
use Rattle.numbers.specs.RefuseLaws.{refuse_zero}
use Rattle.planner.specs.Calls.{rows_ok, rectangle_ok, asked_refusal}
use Rattle.planner.proofs.Fill.refusal.Goals as goal

pub returns : goal.returns
unfolding asked_refusal
returns c =
    let f = c.args.self in
    let a = refuse_zero (rows_ok f) 1 0 (sym c.in_ok-refuse.ensures) in
    let b = refuse_zero (rectangle_ok f) 11 0 (sym c.in_ok-refuse-2.ensures) in
    rw (a.0, b.0) c.refuse-3.ensures
