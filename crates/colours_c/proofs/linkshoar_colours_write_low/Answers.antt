-- `colours_c::linkshoar_colours_write_low` meets its contract. Assumes nothing.
use Rattle.std.proofs.Common.{◌∙◌, rules}
use Rattle.colours.specs.Calls.{write_low_call}
use Rattle.colours_c.specs.Calls.{held_low}
use Rattle.colours_c.specs.CallLaws.{answered_by}
use Rattle.colours_c.proofs.linkshoar_colours_write_low.Goals as goal

pub returns : goal.returns
unfolding held_low
returns c =
    let a = c.args in
    c.of.ensures
    ∙ answered_by a.state _ c.and_then-answer.result (rw c.try_from.ensures at c.and_then-answer.ensures) (λ s. write_low_call s a.low) (λ s p. search rules)
