-- `pieces::rule::sound` meets its contract. Assumes nothing.
use Rattle.std.proofs.Common.{sym, ◌∙◌}
use Rattle.pieces.specs.PackLaws.{sound_spare, sound_going, sound_stopped}
use Rattle.pieces.proofs.rule.sound.Goals as goal

pub returns-then-not-zeros_from : goal.returns-then-not-zeros_from
returns-then-not-zeros_from c =
    let z = c.zeros_from.ensures in
    (sym (sound_spare _ (sym z.0 ∙ c.if-not-zeros_from.true)), z.1)

pub returns-then-p-eq0 : goal.returns-then-p-eq0
returns-then-p-eq0 c =
    let z = c.zeros_from.ensures in
    (sound_going _ (sym z.0 ∙ c.if-not-zeros_from.false) c.if-p-eq0.true _ c.going.ensures, z.1)

pub returns : goal.returns
returns c =
    let z = c.zeros_from.ensures in
    (sound_stopped _ (sym z.0 ∙ c.if-not-zeros_from.false) c.if-p-eq0.false z.1 _ c.stopped.ensures, z.1)
