-- `host::linkshoar_panel_run_six` meets its contract. Assumes nothing.
use Rattle.panel.proofs.PartLaws.{six_rule}
use Rattle.host.proofs.linkshoar_panel_run_six.Goals as goal

pub returns : goal.returns
returns c = rw (← six_rule) c.panel_run.ensures
