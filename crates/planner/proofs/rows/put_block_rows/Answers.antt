-- `planner::rows::put_block_rows` meets its contract. The invariant: `o` stands after the rows below `row`, and those are stored.
-- Assumes nothing.
use Rattle.std.proofs.Common.{◌≡◌, sym, ap, ap₂, ◌∙◌, List, ℕ, ◌+◌, ◌-◌, ◌*◌, ◌≤◌, mul-le-mul_right, arith}
use lib.Seq.{sets}
use Rattle.planner.specs.Bytes.{block_row, block_rows}
use Rattle.planner.proofs.BytesLaws.{block_rows_none, block_rows_more}
use Rattle.planner.proofs.rows.put_block_rows.Goals as goal

pub loop-row-init : goal.loop-row-init
loop-row-init c =
    let a = c.args in
    let b = a.blocks in
    let z : a.first_row - a.first_row ≡ 0 = omega arith in
    rw z (omega arith, ap (sets a.list.now 6) (sym (block_rows_none b.block b.first b.last b.mask b.n a.first_row)))

pub put_block_row-requires : goal.put_block_row-requires
put_block_row-requires c =
    let k = c.loop-row in
    let a = c.args in
    let t : k.row - a.first_row + 1 ≤ a.end_row - a.first_row = omega arith in
    omega (arith, mul-le-mul_right (13 * a.blocks.n) t)

pub loop-row-preserved : goal.loop-row-preserved
loop-row-preserved c =
    let k = c.loop-row in
    let a = c.args in
    let b = a.blocks in
    let i = k.row - a.first_row in
    let z : k.row + 1 - a.first_row ≡ i + 1 = omega arith in
    let r : k.row ≡ a.first_row + i = omega arith in
    rw z (
      omega arith,
      c.put_block_row.ensures
          ∙ ap₂ (λ (l : List ℕ) (o : ℕ). sets l o (block_row b.block b.first b.last b.mask b.n k.row)) k.invariant.1 k.invariant.0
          ∙ ap (λ (x : ℕ). sets (sets a.list.now 6 (block_rows b.block b.first b.last b.mask b.n a.first_row i)) (6 + i * (13 * b.n)) (block_row b.block b.first b.last b.mask b.n x)) r
          ∙ block_rows_more b.block b.first b.last b.mask b.n a.list.now a.first_row i,
    )

pub returns : goal.returns
returns c =
    let k = c.loop-row in
    let a = c.args in
    let b = a.blocks in
    let e : k.row - a.first_row ≡ a.end_row - a.first_row = omega arith in
    k.invariant.1 ∙ ap (λ (i : ℕ). sets a.list.now 6 (block_rows b.block b.first b.last b.mask b.n a.first_row i)) e
