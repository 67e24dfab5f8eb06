-- `palette::Palette::byte_read` meets its contract. Assumes nothing.
use Rattle.std.proofs.Common.{rules}
use Rattle.palette.specs.Access.{byte_read}
use Rattle.palette.proofs.Palette.byte_read.Goals as goal

pub returns-in-0 : goal.returns-in-0
unfolding byte_read
returns-in-0 c = search rules

pub returns-in-1 : goal.returns-in-1
unfolding byte_read
returns-in-1 c = search rules

pub returns-in_default : goal.returns-in_default
unfolding byte_read
returns-in_default c = search rules
