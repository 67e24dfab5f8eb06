-- `panel::stretches::show` meets its contract: one stretch more at each turn. Assumes nothing.
use Rattle.std.proofs.Common.{◌≡◌, ◌≤◌, ◌-◌}
use Rattle.panel.specs.Panel.{shows, shown}
use Rattle.numbers.specs.Buffer.{over}
use Rattle.panel.proofs.stretches.show.Given as goal

abbrev pub invariant-loop-done : goal.invariant-loop-done
invariant-loop-done l = (l.done ≤ l.clocks) × (l.out ≡ over (shown (shows l.panel) l.done l.state l.serial) l.initial.out)

abbrev pub decreases-loop-done : goal.decreases-loop-done
decreases-loop-done l = l.clocks - l.done
