-- `words::column_allow` meets its contract. Assumes nothing.
use Rattle.std.proofs.Common.{◌%◌}
use Rattle.words.specs.CodeLaws.{column_law}
use Rattle.words.proofs.column_allow.Goals as goal

pub returns : goal.returns
returns c = column_law c.args.columns (c.args.column % 4)
