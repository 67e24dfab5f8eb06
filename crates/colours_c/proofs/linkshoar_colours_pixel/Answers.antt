-- `colours_c::linkshoar_colours_pixel` meets its contract. Assumes nothing.
use Rattle.std.proofs.Common.{◌∙◌, ap}
use Rattle.colours_c.specs.Calls.{moved_on}
use Rattle.colours_c.specs.CallLaws.{moved_asked}
use Rattle.colours_c.proofs.linkshoar_colours_pixel.Goals as goal

pub returns : goal.returns
returns c =
    let a = c.args in
    c.of.ensures ∙ ap (moved_on a.state) c.asked.ensures ∙ moved_asked a.state a.table.now a.inputs
