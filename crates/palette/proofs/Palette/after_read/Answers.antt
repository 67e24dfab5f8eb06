-- `palette::Palette::after_read` meets its contract. Assumes nothing.
use Rattle.std.proofs.Common.{rules}
use Rattle.palette.specs.Access.{after_read}
use Rattle.palette.proofs.Palette.after_read.Goals as goal

pub returns-then-select-eq1 : goal.returns-then-select-eq1
unfolding after_read
returns-then-select-eq1 c = search rules

pub returns-else-select-eq1 : goal.returns-else-select-eq1
unfolding after_read
returns-else-select-eq1 c = search rules
