-- `planner::rows::put_block_rows` meets its contract. The invariant: `o` stands after the rows below `row`, and those are stored.
-- Assumes nothing.
use Rattle.std.proofs.Common.{◌≡◌, ◌+◌, ◌-◌, ◌*◌}
use lib.Seq.{sets}
use Rattle.planner.specs.Bytes.{block_rows}
use Rattle.planner.proofs.rows.put_block_rows.Given as goal

abbrev pub invariant-loop-row : goal.invariant-loop-row
invariant-loop-row l =
    (l.o ≡ 6 + (l.row - l.first_row) * (13 * l.blocks.n))
    × (l.list ≡ sets l.initial.list 6 (block_rows l.blocks.block l.blocks.first l.blocks.last l.blocks.mask l.blocks.n l.first_row (l.row - l.first_row)))
