-- `report::text::Page::answer` meets its contract: four texts, one after the other. Assumes nothing.
use Rattle.std.proofs.Common.{arith}
use Rattle.report.specs.Text.{answer_line}
use Rattle.report.specs.TextLaws.{put_then, put_size}
use Rattle.report.proofs.text.Page.answer.Goals as goal

pub number-requires : goal.number-requires
number-requires c = (c.requires.0, omega (arith, c.bytes.ensures.end, put_size c.bytes.ensures, c.requires.2))

pub bytes-requires-2 : goal.bytes-requires-2
bytes-requires-2 c =
    let b = c.bytes.ensures in
    let n = c.number.ensures in
    omega (arith, b.end, put_size b, n.1, put_size n.0, c.requires.2)

pub number-requires-2 : goal.number-requires-2
number-requires-2 c =
    let b = c.bytes.ensures in
    let n = c.number.ensures in
    let d = c.bytes-2.ensures in
    (c.requires.1, omega (arith, b.end, put_size b, n.1, put_size n.0, d.end, put_size d, c.requires.2))

pub returns : goal.returns
unfolding answer_line
returns c =
    let b₁ = c in (
      put_then b₁.bytes.ensures (put_then c.number.ensures.0 (put_then c.bytes-2.ensures c.number-2.ensures.0)),
      omega (arith, b₁.bytes.ensures.end, c.number.ensures.1, c.bytes-2.ensures.end, c.number-2.ensures.1),
    )
