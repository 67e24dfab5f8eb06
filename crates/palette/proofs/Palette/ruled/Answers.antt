-- `palette::Palette::ruled` meets its contract. Assumes nothing.
use Rattle.std.proofs.Common.{rules}
use Rattle.palette.specs.State.{ruled}
use Rattle.palette.proofs.Palette.ruled.Goals as goal

pub returns : goal.returns
unfolding ruled
returns c = search rules
