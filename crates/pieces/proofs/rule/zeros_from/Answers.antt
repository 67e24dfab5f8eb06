-- `pieces::rule::zeros_from` meets its contract. Assumes nothing.
use Rattle.std.proofs.Common.{refl, sym, ◌∙◌, arith}
use Rattle.pieces.specs.PackLaws.{zero_end, zero_good, zero_bad}
use Rattle.pieces.proofs.rule.zeros_from.Goals as goal

pub loop-i-init : goal.loop-i-init
loop-i-init c = (refl, omega arith)

pub bounds-s-i : goal.bounds-s-i
bounds-s-i c = omega arith

pub returns-then-s-i-ne0 : goal.returns-then-s-i-ne0
returns-then-s-i-ne0 c =
    let l = c.loop-i in
    (sym (zero_bad _ l.i c.loop-i-test.true c.if-s-i-ne0.true) ∙ l.invariant.0, l.invariant.1)

pub overflow_add-i : goal.overflow_add-i
overflow_add-i c = omega arith

pub loop-i-smaller : goal.loop-i-smaller
loop-i-smaller c = omega arith

pub loop-i-preserved : goal.loop-i-preserved
loop-i-preserved c =
    let l = c.loop-i in
    (zero_good _ l.i c.loop-i-test.true c.if-s-i-ne0.false ∙ l.invariant.0, l.invariant.1)

pub returns : goal.returns
returns c =
    let l = c.loop-i in
    (sym (zero_end _ l.i c.loop-i-test.false) ∙ l.invariant.0, l.invariant.1)
