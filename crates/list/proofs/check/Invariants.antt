-- `list::check` meets its contract: one turn of the loop is one field judged. Assumes nothing.
use Rattle.std.proofs.Common.{◌≡◌, ◌≤◌, ◌-◌, length}
use Rattle.std.specs.Prelude.Option.{None}
use Rattle.list.specs.Meaning.{judged}
use Rattle.list.specs.Fields.{fields}
use Rattle.list.proofs.check.Given as goal

abbrev pub invariant-loop-rest : goal.invariant-loop-rest
invariant-loop-rest l =
    (length l.rest ≤ length l.list) × (judged l.rows l.made l.left (length l.list - length l.rest) (fields l.rest) ≡ judged l.rows l.loaded None 0 (fields l.list))

abbrev pub decreases-loop-rest : goal.decreases-loop-rest
decreases-loop-rest l = length l.rest
