-- `pieces::bytes::feed` meets its contract. Assumes nothing.
use Rattle.std.proofs.Common.{arith}
use Rattle.pieces.specs.Line.{limit}
use Rattle.pieces.proofs.ByteLaws.{fed_refused, fed_over, fed_few, fed_held, fed_come}
use Rattle.pieces.proofs.bytes.feed.Goals as goal

pub returns-then-p-ne0 : goal.returns-then-p-ne0
returns-then-p-ne0 c = fed_refused _ c.requires.0 _ _ c.if-p-ne0.true

pub returns-then-p : goal.returns-then-p
unfolding limit
returns-then-p c = fed_over _ c.requires.0 _ _ c.if-p-ne0.false (omega (arith, c.if-p.true)) _ c.standing-pieces.ensures

pub bounds-held-p : goal.bounds-held-p
bounds-held-p c = fed_few _ c.requires.0 c.if-p-ne0.false

pub come-requires : goal.come-requires
unfolding limit
come-requires c =
    (fed_held _ c.requires.0 c.if-p-ne0.false _ (omega (arith, c.if-p.false)), c.if-p-ne0.false, c.requires.1)

pub returns : goal.returns
unfolding limit
returns c = fed_come _ c.requires.0 _ _ c.if-p-ne0.false (omega (arith, c.if-p.false)) _ _ c.come.ensures
