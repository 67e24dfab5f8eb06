-- `marks::rows::first_from` meets its contract. Assumes nothing.
use Rattle.std.proofs.Common.{◌≡◌, refl, sym, ap, ◌∙◌, ◌-◌, arith}
use Rattle.marks.specs.Marks.{first_marked}
use Rattle.marks.proofs.NextLaws.{first_none}
use Rattle.marks.proofs.Turns.{found, turn_row, turn_byte}
use Rattle.marks.proofs.rows.first_from.Goals as goal

pub loop-row-init : goal.loop-row-init
loop-row-init c = (omega (arith, c.requires.1), refl)

pub bounds-marks-row : goal.bounds-marks-row
bounds-marks-row c = omega (arith, c.requires.0)

pub loop-row-smaller-then-left-eq0 : goal.loop-row-smaller-then-left-eq0
loop-row-smaller-then-left-eq0 c = omega arith

pub loop-row-preserved-then-left-eq0 : goal.loop-row-preserved-then-left-eq0
loop-row-preserved-then-left-eq0 c =
    let a = c.args in
    let h = c.loop-row-test.true in
    (omega arith, turn_byte a.marks.now c.loop-row.row h c.if-left-eq0.true ∙ c.loop-row.invariant.1)

pub loop-row-smaller : goal.loop-row-smaller
loop-row-smaller c = omega arith

pub loop-row-preserved : goal.loop-row-preserved
loop-row-preserved c =
    let a = c.args in
    let h = c.loop-row-test.true in
    (omega arith, turn_row a.marks.now c.loop-row.row h c.if-left-eq1.false ∙ c.loop-row.invariant.1)

pub returns : goal.returns
returns c =
    let a = c.args in
    let z : 512 - c.loop-row.row ≡ 0 = omega (arith, c.loop-row-test.false) in
    sym (ap (first_marked a.marks.now c.loop-row.row) z ∙ first_none a.marks.now c.loop-row.row) ∙ c.loop-row.invariant.1

pub returns-then-left-eq1 : goal.returns-then-left-eq1
returns-then-left-eq1 c =
    let a = c.args in
    found a.marks.now c.loop-row.row c.loop-row-test.true c.if-left-eq1.true ∙ c.loop-row.invariant.1
