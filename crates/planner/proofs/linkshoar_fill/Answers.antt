-- `planner::linkshoar_fill` meets its contract. Assumes nothing.
use Rattle.std.proofs.Common.{ap, ◌∙◌}
use Rattle.planner.specs.declared.Filled.{Filled}
use Rattle.planner.specs.Fill.{fill}
use Rattle.planner.specs.Calls.{outcome}
use Rattle.planner.proofs.AsDemanded.{with_demand}
use Rattle.planner.proofs.linkshoar_fill.Goals as goal

pub returns : goal.returns
returns c =
    let a = c.args in
    let f = fill a.rows a.first_row a.end_row a.first_column a.end_column a.mask a.colour a.persistent in
    let d = with_demand f a.list.now c.ranges.mask.fits c.ranges.colour.fits (ap (λ (r : Filled). outcome r c.put.new.list) c.from.ensures ∙ c.put.ensures) in
    record { outcome = d.0; demand = d.1 }
