-- `pencil::bits::strobed` meets its contract. Assumes nothing.
use Rattle.std.proofs.Common.{sym, ◌∙◌}
use Rattle.words.specs.WordLaws.{covers_is}
use Rattle.pencil.proofs.bits.strobed.Goals as goal

pub returns : goal.returns
returns c = c.has.ensures ∙ sym (covers_is c.args.strobes c.args.b)
