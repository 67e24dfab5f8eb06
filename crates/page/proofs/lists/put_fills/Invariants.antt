-- `page::lists::put_fills` meets its contract. The invariant: what is still to be put makes the whole. Assumes nothing.
use Rattle.std.proofs.Common.{◌≡◌, ◌+◌, length}
use lib.Seq.{sets}
use Rattle.page.specs.Rectangles.{items}
use Rattle.page.specs.Calls.{fills_of, joined, plans, verdict}
use Rattle.page.proofs.lists.put_fills.Given as goal

abbrev pub invariant-loop-rest : goal.invariant-loop-rest
invariant-loop-rest l =
    (length l.list ≡ length l.initial.list)
    × ((verdict l.rows 0 (items l.rest)).number ≡ 0)
    × (l.at + length (joined (fills_of l.rows l.rest)) ≡ length (joined (fills_of l.rows l.rectangles)))
    × (l.cycles + length (plans (fills_of l.rows l.rest)) ≡ length (plans (fills_of l.rows l.rectangles)))
    × (sets l.list l.at (joined (fills_of l.rows l.rest)) ≡ sets l.initial.list 0 (joined (fills_of l.rows l.rectangles)))

abbrev pub decreases-loop-rest : goal.decreases-loop-rest
decreases-loop-rest l = length l.rest
