-- `pieces::rule::going` meets its contract. Assumes nothing.
use Rattle.std.proofs.Common.{sym, arith, length-take}
use Rattle.pieces.specs.Line.{limit}
use Rattle.pieces.specs.PackLaws.{going_over, going_is}
use Rattle.pieces.proofs.rule.going.Goals as goal

pub returns-then-n-gt12 : goal.returns-then-n-gt12
returns-then-n-gt12 c =
    sym (going_over c.args.held.now _ _ _ (omega arith) c.if-n-gt12.true)

pub slice_bounds-waits-end : goal.slice_bounds-waits-end
slice_bounds-waits-end c = simp length-take (omega arith)

pub returns : goal.returns
unfolding limit
returns c =
    rw (c.waits.ensures, c.before-earlier.ensures) (sym (going_is c.args.held.now _ _ _ (omega arith) c.if-n-gt12.false (omega arith)))
