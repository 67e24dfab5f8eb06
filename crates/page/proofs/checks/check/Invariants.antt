-- `page::checks::check` meets its contract. Assumes nothing.
use Rattle.std.proofs.Common.{◌≡◌, ◌≤◌, ◌-◌, length}
use Rattle.std.specs.Prelude.Option.{Some}
use Rattle.page.specs.Rectangles.{items}
use Rattle.page.specs.Calls.{judged}
use Rattle.page.proofs.checks.check.Given as goal

abbrev pub invariant-loop-rest : goal.invariant-loop-rest
invariant-loop-rest l =
    (length l.rest ≤ length l.rectangles)
    × (judged l.rows l.persistent l.left (length l.rectangles - length l.rest) (items l.rest) ≡ judged l.rows l.persistent (Some l.room) 0 (items l.rectangles))

abbrev pub decreases-loop-rest : goal.decreases-loop-rest
decreases-loop-rest l = length l.rest
