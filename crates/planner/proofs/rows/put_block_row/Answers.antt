-- `planner::rows::put_block_row` meets its contract. Assumes nothing.
use Rattle.std.proofs.Common.{ap, ◌∙◌, List, ℕ, ◌+◌, ◌-◌, ◌*◌, arith}
use lib.Seq.{sets}
use Rattle.planner.specs.Bytes.{write_at, row_bytes}
use Rattle.planner.proofs.BytesLaws.{one_stored, more_stored}
use Rattle.planner.proofs.rows.put_block_row.Goals as goal

pub returns-then-blocks-eq1 : goal.returns-then-blocks-eq1
returns-then-blocks-eq1 c =
    let a = c.args in
    let b = a.blocks in
    c.put_write.ensures
    ∙ one_stored b.block b.first b.last b.mask b.n a.row c.place_of-place.result c.place_of-place.ensures.0 a.list.now a.at c.if-blocks-eq1.true

pub returns : goal.returns
returns c =
    let a = c.args in
    let b = a.blocks in
    let p = c.place_of-place.result in
    c.put_write-2.ensures
    ∙ ap (λ (l : List ℕ). sets l (a.at + 13 * (b.n - 1)) (write_at 2 (p + 4 * (b.n - 1)) b.last b.mask))
    (c.put_row.ensures ∙ ap (λ (l : List ℕ). sets l (a.at + 13) (row_bytes 2 (p + 4) 4 65535 b.mask (b.n - 2))) c.put_write.ensures)
    ∙ more_stored b.block b.first b.last b.mask b.n a.row p c.place_of-place.ensures.0 a.list.now a.at (omega arith)
