-- `planner::writes::put_row` meets its contract. The invariant: `o` and `place` stand after i writes, and those are stored.
-- Assumes nothing.
use Rattle.std.proofs.Common.{◌≡◌, ◌+◌, ◌*◌, ◌≤◌}
use lib.Seq.{sets}
use Rattle.planner.specs.Bytes.{row_bytes}
use Rattle.planner.proofs.writes.put_row.Given as goal

abbrev pub invariant-loop-i : goal.invariant-loop-i
invariant-loop-i l =
    (l.o ≡ l.at + l._i * 13)
    × (l.place ≤ l.first + 4 * l._i)
    × (l.place ≡ l.first + l.step * l._i)
    × (l.list ≡ sets l.initial.list l.at (row_bytes l.tag l.first l.step l.value l.mask l._i))
