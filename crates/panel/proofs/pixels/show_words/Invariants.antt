-- `panel::pixels::show_words` meets its contract: one word more at each turn. Assumes nothing.
use Rattle.std.proofs.Common.{◌≡◌, ◌≤◌, length, take}
use Rattle.panel.specs.Panel.{shows, bytes_of}
use Rattle.numbers.specs.Buffer.{over}
use Rattle.panel.proofs.pixels.show_words.Given as goal

abbrev pub invariant-loop-i : goal.invariant-loop-i
invariant-loop-i l = (l.i ≤ length l.words) × (l.out ≡ over (bytes_of (shows l.panel) (take l.i l.words)) l.initial.out)
