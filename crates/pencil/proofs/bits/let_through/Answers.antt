-- `pencil::bits::let_through` meets its contract. Assumes nothing.
use Rattle.std.proofs.Common.{sym, ◌∙◌, ◌%◌}
use Rattle.words.specs.WordLaws.{lets_is}
use Rattle.pencil.proofs.bits.let_through.Goals as goal

-- first, so that a wrong bit is refused for its value and not for a sum's width
pub returns : goal.returns
returns c = c.has.ensures ∙ sym (lets_is c.args.columns (c.args.column % 4) c.args.b)
