-- `report::text::Page::hex` meets its contract: four digits, one after the other. Assumes nothing.
use Rattle.std.proofs.Common.{arith}
use Rattle.report.specs.Text.{hex}
use Rattle.report.specs.TextLaws.{put_then}
use Rattle.report.proofs.text.Page.hex.Goals as goal

pub returns : goal.returns
unfolding hex
returns c =
    let p₁ = c in (
      put_then p₁.digit.ensures (put_then c.digit-2.ensures (put_then c.digit-3.ensures c.digit-4.ensures)),
      omega (arith, p₁.digit.ensures.end, c.digit-2.ensures.end, c.digit-3.ensures.end, c.digit-4.ensures.end),
    )
