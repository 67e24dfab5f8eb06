-- `planner::writes::put_row` meets its contract. The invariant: `o` and `place` stand after i writes, and those are stored.
-- Assumes nothing.
use Rattle.std.proofs.Common.{◌≡◌, sym, ap, ap₂, ◌∙◌, List, ℕ, ◌+◌, ◌*◌, ◌≤◌, arith, mul-add, mul-one}
use lib.Seq.{sets}
use Rattle.planner.specs.Bytes.{write_at, row_bytes}
use Rattle.planner.proofs.BytesLaws.{row_none, row_more}
use Rattle.planner.proofs.writes.put_row.Goals as goal

pub loop-i-init : goal.loop-i-init
loop-i-init c = let a = c.args in (omega arith, omega arith, omega arith, ap (sets a.list.now a.at) (sym (row_none a.tag a.first a.step a.value a.mask)))

pub put_write-requires : goal.put_write-requires
put_write-requires c = omega arith

pub overflow_add-o : goal.overflow_add-o
overflow_add-o c = omega arith

pub overflow_add-place : goal.overflow_add-place
overflow_add-place c = omega arith

pub loop-i-preserved : goal.loop-i-preserved
loop-i-preserved c =
    let w = c.put_write in
    let k = c.loop-i in
    let a = c.args in
    let e : a.step * (k._i + 1) ≡ a.step * k._i + a.step = mul-add a.step k._i 1 ∙ ap (λ (x : ℕ). a.step * k._i + x) (mul-one a.step) in
    let f =
    w.ensures
    ∙ ap₂ (λ (l : List ℕ) (o : ℕ). sets l o (write_at a.tag k.place a.value a.mask)) k.invariant.3 k.invariant.0
    ∙ ap (λ (p : ℕ). sets (sets a.list.now a.at (row_bytes a.tag a.first a.step a.value a.mask k._i)) (a.at + k._i * 13) (write_at a.tag p a.value a.mask)) k.invariant.2
    ∙ row_more a.tag a.first a.step a.value a.mask a.list.now a.at k._i in
    (omega arith, omega arith, omega arith, f)

pub returns : goal.returns
returns c =
    let k = c.loop-i in
    let a = c.args in
    let e : k._i ≡ a.n = omega arith in
    k.invariant.3 ∙ ap (λ (i : ℕ). sets a.list.now a.at (row_bytes a.tag a.first a.step a.value a.mask i)) e
