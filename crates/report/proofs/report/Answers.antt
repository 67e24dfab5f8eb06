-- `report::report` meets its contract: the text stands at the start of the page, which has room for it. Assumes nothing.
use Rattle.std.proofs.Common.{subst, ◌∙◌, ap, ℕ, List, arith}
use Rattle.report.specs.ReportLaws.{bytes_most, report_told}
use Rattle.report.specs.Text.{Put}
use Rattle.report.specs.Report.{text_of, tell}
use Rattle.report.proofs.report.Goals as goal

pub written-requires : goal.written-requires
written-requires c =
    let e = c.empty-page in
    let q = c.write_text.new.page in
    let p = subst (λ (at : ℕ). Put e.result.text at (text_of c.args.list.now) q.text q.at) e.ensures.1 c.write_text.ensures in
    bytes_most _ _ _ _ p (omega (arith, e.ensures.0))

pub returns : goal.returns
returns c =
    let e = c.empty-page in
    let q = c.write_text.new.page in
    let p = subst (λ (at : ℕ). Put e.result.text at (text_of c.args.list.now) q.text q.at) e.ensures.1 c.write_text.ensures in
    report_told _ _ _ _ p (omega (arith, e.ensures.0)) _ _ _ (c.tell.ensures ∙ ap (λ (l : List ℕ). tell l c.args.text.now) c.written.ensures)
