-- `planner::rows::put_words` meets its contract. The invariant: `o` stands after the rows below `row`, and those are stored.
-- Assumes nothing.
use Rattle.std.proofs.Common.{◌≡◌, ◌-◌, ◌*◌}
use lib.Seq.{sets}
use Rattle.planner.specs.Bytes.{word_rows}
use Rattle.planner.proofs.rows.put_words.Given as goal

abbrev pub invariant-loop-row : goal.invariant-loop-row
invariant-loop-row l =
    (l.o ≡ (l.row - l.fill.first_row) * (13 * l.width))
    × (l.list ≡ sets l.initial.list 0 (word_rows l.fill.first_column l.width l.fill.colour l.fill.mask l.fill.first_row (l.row - l.fill.first_row)))
