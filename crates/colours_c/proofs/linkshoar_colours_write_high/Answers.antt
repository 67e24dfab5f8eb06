-- `colours_c::linkshoar_colours_write_high` meets its contract. Assumes nothing.
use Rattle.std.proofs.Common.{sym, ◌∙◌}
use Rattle.colours.specs.Calls.{write_high_call}
use Rattle.colours_c.specs.Calls.{held_high}
use Rattle.colours_c.specs.CallLaws.{written_ok, written_err}
use Rattle.colours_c.proofs.linkshoar_colours_write_high.Goals as goal

pub returns-in-Ok : goal.returns-in-Ok
unfolding held_high
returns-in-Ok c =
    let a = c.args in
    written_ok a.state (λ s. write_high_call s a.table.now a.address a.high) a.table.now _ (sym c.try_from.ensures ∙ c.in-Ok.is) c.of.ensures c.write_high.ensures

pub returns-in-Err : goal.returns-in-Err
unfolding held_high
returns-in-Err c =
    let a = c.args in
    written_err a.state (λ s. write_high_call s a.table.now a.address a.high) a.table.now _ (sym c.try_from.ensures ∙ c.in-Err.is) c.of-in-Err.ensures
