-- `bench::say_report` meets its contract: what is printed lies within the text. Assumes nothing.
use Rattle.std.proofs.Common.{sym, arith, length-take}
use Rattle.report.specs.ReportLaws.{told_within}
use Rattle.bench.proofs.say_report.Goals as goal

pub slice_bounds-text-end : goal.slice_bounds-text-end
slice_bounds-text-end g c = let r = c.report in omega (arith, told_within _ _ _ _ r.ensures, c.unwrap_or-bytes.ensures, r.auto.text)

pub slice_bounds-write_all-end : goal.slice_bounds-write_all-end
slice_bounds-write_all-end g c =
    let r = c.report in sym (simp length-take (omega (arith, told_within _ _ _ _ r.ensures, c.unwrap_or-bytes.ensures, r.auto.text)))
