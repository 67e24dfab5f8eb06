-- `panel::stretches::run_bytes` meets its contract. Assumes nothing.
use Rattle.std.proofs.Common.{eq-eqb, ne_eqb}
use Rattle.panel.proofs.stretches.run_bytes.Goals as goal

pub returns-then-blank-eq0 : goal.returns-then-blank-eq0
returns-then-blank-eq0 c = rw (eq-eqb _ _ c.if-blank-eq0.true) c.show.ensures

pub returns-else-blank-eq0 : goal.returns-else-blank-eq0
returns-else-blank-eq0 c = rw (ne_eqb _ _ c.if-blank-eq0.false) c.clear.ensures
