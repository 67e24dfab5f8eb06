-- `pieces::whole::advance` meets its contract. Assumes nothing.
use Rattle.std.proofs.Common.{arith}
use Rattle.pieces.proofs.AlongLaws.{along_all, along_byte}
use Rattle.pieces.proofs.whole.advance.Goals as goal

pub returns-then-went-ne0 : goal.returns-then-went-ne0
returns-then-went-ne0 c = (along_all _ _ _ _ _ _ c.at_once-went.ensures c.if-went-ne0.true, c.requires.2)

pub returns : goal.returns
returns c =
    (along_byte _ _ _ _ _ _ c.at_once-went.ensures c.if-rest-went.false _ _ c.feed-moved.ensures, omega arith)
