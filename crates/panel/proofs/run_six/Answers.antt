-- `panel::run_six` meets its contract. Assumes nothing.
use Rattle.panel.proofs.PartLaws.{six_rule}
use Rattle.panel.proofs.run_six.Goals as goal

pub returns : goal.returns
returns c = rw (← six_rule) c.run_at.ensures
