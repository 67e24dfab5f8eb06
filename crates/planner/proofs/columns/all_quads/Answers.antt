-- `planner::columns::all_quads` meets its contract. Assumes nothing.
use Rattle.planner.specs.ColumnLaws.{quads_shifts}
use Rattle.planner.proofs.columns.all_quads.Goals as goal

pub returns : goal.returns
returns c = quads_shifts c.args.columns c.requires
