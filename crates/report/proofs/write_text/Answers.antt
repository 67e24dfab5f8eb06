-- `report::write_text` meets its contract. Assumes nothing.
use Rattle.report.specs.ReportLaws.{text_long, text_short}
use Rattle.report.proofs.write_text.Goals as goal

pub returns : goal.returns
returns c =
    rw (← (text_short _ c.if-list-gt4096.false)) c.write_lines.ensures

pub returns-then-list-gt4096 : goal.returns-then-list-gt4096
returns-then-list-gt4096 c =
    rw (← (text_long _ c.if-list-gt4096.true)) c.bytes.ensures
