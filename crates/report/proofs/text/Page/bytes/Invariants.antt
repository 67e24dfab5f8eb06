-- `report::text::Page::bytes` meets its contract: one byte more at each turn. Assumes nothing.
use Rattle.std.proofs.Common.{◌≤◌, length, take}
use Rattle.report.specs.Page.{Wrote}
use Rattle.report.proofs.text.Page.bytes.Given as goal

abbrev pub invariant-loop-byte : goal.invariant-loop-byte
invariant-loop-byte l = (l.byte-index ≤ length l.bytes) × Wrote l.initial.self (take l.byte-index l.bytes) l.self
