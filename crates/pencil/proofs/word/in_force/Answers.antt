-- `pencil::word::in_force` meets its contract. Assumes nothing.
use Rattle.std.proofs.Common.{eq-eqb, ne_eqb}
use Rattle.pencil.proofs.word.in_force.Goals as goal

pub returns-then-masking-eq0 : goal.returns-then-masking-eq0
returns-then-masking-eq0 c = rw (eq-eqb _ _ c.if-masking-eq0.true)

pub returns-then-persistent : goal.returns-then-persistent
returns-then-persistent c = rw (ne_eqb _ _ c.if-masking-eq0.false, c.if-persistent.true)

pub returns-else-persistent : goal.returns-else-persistent
returns-else-persistent c = rw (ne_eqb _ _ c.if-masking-eq0.false, c.if-persistent.false)
