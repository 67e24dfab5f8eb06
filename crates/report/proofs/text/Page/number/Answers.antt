-- `report::text::Page::number` meets its contract: four digits and a byte, one after the other. Assumes nothing.
use Rattle.std.proofs.Common.{arith}
use Rattle.report.specs.Text.{decimal}
use Rattle.report.specs.TextLaws.{put_then}
use Rattle.report.proofs.text.Page.number.Goals as goal

pub returns : goal.returns
unfolding decimal
returns c =
    let p₁ = c in (
      put_then
          (put_then p₁.digit_from.ensures.0
          (put_then c.digit_from-2.ensures.0 (put_then c.digit_from-3.ensures.0 c.digit.ensures)))
          c.byte.ensures,
      omega
          (arith, p₁.digit_from.ensures.1, c.digit_from-2.ensures.1, c.digit_from-3.ensures.1, c.digit.ensures.end, c.byte.ensures.end),
    )
