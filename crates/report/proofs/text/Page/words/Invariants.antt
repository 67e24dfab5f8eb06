-- `report::text::Page::words` meets its contract: one word more at each turn. Assumes nothing.
use Rattle.std.proofs.Common.{◌≤◌, length, take}
use Rattle.report.specs.Text.{word_lines}
use Rattle.report.specs.Page.{Wrote}
use Rattle.report.proofs.text.Page.words.Given as goal

abbrev pub invariant-loop-i : goal.invariant-loop-i
invariant-loop-i l = (l.i ≤ length l.memory) × Wrote l.initial.self (word_lines 0 (take l.i l.memory)) l.self
