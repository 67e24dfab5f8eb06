-- `panel::run` meets its contract. Assumes nothing.
use Rattle.panel.proofs.PartLaws.{eight_rule}
use Rattle.panel.proofs.run.Goals as goal

pub returns : goal.returns
returns c = rw (← eight_rule) c.run_at.ensures
