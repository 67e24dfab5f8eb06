-- `colours_c::linkshoar_colours_write` meets its contract. Assumes nothing.
use Rattle.std.proofs.Common.{sym, ◌∙◌}
use Rattle.colours.specs.Calls.{write_call}
use Rattle.colours_c.specs.Calls.{held_write}
use Rattle.colours_c.specs.CallLaws.{written_ok, written_err}
use Rattle.colours_c.proofs.linkshoar_colours_write.Goals as goal

pub returns-in-Ok : goal.returns-in-Ok
unfolding held_write
returns-in-Ok c =
    let a = c.args in
    written_ok a.state (λ s. write_call s a.table.now a.address a.value) a.table.now _ (sym c.try_from.ensures ∙ c.in-Ok.is) c.of.ensures c.write.ensures

pub returns-in-Err : goal.returns-in-Err
unfolding held_write
returns-in-Err c =
    let a = c.args in
    written_err a.state (λ s. write_call s a.table.now a.address a.value) a.table.now _ (sym c.try_from.ensures ∙ c.in-Err.is) c.of-in-Err.ensures
