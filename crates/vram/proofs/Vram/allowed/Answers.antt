-- `vram::Vram::allowed` meets its contract. Assumes nothing.
use Rattle.words.specs.Word.{covers}
use Rattle.words.specs.CodeLaws.{joined}
use Rattle.std.proofs.Common.{ap, ◌∙◌}
use lib.Bits.{bit_and}
use Rattle.vram.proofs.Vram.allowed.Goals as goal

pub returns : goal.returns
returns c = ap (bit_and c.strobe_mask.result) c.in_force.ensures ∙ joined _ _ (covers c.args.strobes) c.strobe_mask.ensures
