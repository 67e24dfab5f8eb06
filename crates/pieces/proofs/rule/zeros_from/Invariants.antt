-- `pieces::rule::zeros_from` meets its contract. Assumes nothing.
use Rattle.std.proofs.Common.{◌≡◌, ◌-◌, length, drop}
use Rattle.pieces.specs.Pieces.{all_zero}
use Rattle.pieces.proofs.rule.zeros_from.Given as goal

abbrev pub invariant-loop-i : goal.invariant-loop-i
invariant-loop-i l = (all_zero (drop l.i l.held) ≡ all_zero (drop l.n l.held)) × (length l.held ≡ 13)

abbrev pub decreases-loop-i : goal.decreases-loop-i
decreases-loop-i l = length l.held - l.i
