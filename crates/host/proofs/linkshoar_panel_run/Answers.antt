-- `host::linkshoar_panel_run` meets its contract. Assumes nothing.
use Rattle.panel.proofs.PartLaws.{eight_rule}
use Rattle.host.proofs.linkshoar_panel_run.Goals as goal

pub returns : goal.returns
returns c = rw (← eight_rule) c.panel_run.ensures
