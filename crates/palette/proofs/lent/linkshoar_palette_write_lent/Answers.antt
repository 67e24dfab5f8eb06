-- `palette::lent::linkshoar_palette_write_lent` meets its contract. Assumes nothing.
use Rattle.std.proofs.Common.{rules}
use Rattle.palette.specs.Calls.{write_call}
use Rattle.palette.proofs.lent.linkshoar_palette_write_lent.Goals as goal

pub returns-in-Ok : goal.returns-in-Ok
unfolding write_call
returns-in-Ok c = search rules
