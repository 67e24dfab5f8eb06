-- `report::text::Page::line` meets its contract: four texts, one after the other. Assumes nothing.
use Rattle.std.proofs.Common.{arith}
use Rattle.report.specs.Text.{word_line}
use Rattle.report.specs.TextLaws.{put_then, put_size}
use Rattle.report.proofs.text.Page.line.Goals as goal

pub number-requires-2 : goal.number-requires-2
number-requires-2 c = (omega (arith, c.requires.0), omega (arith, c.number.ensures.1, put_size c.number.ensures.0, c.requires.1))

pub hex-requires : goal.hex-requires
hex-requires c =
    let n = c.number.ensures in
    let m = c.number-2.ensures in
    omega (arith, n.1, put_size n.0, m.1, put_size m.0, c.requires.1)

pub byte-requires : goal.byte-requires
byte-requires c =
    let n = c.number.ensures in
    let m = c.number-2.ensures in
    let h = c.hex.ensures in
    omega (arith, n.1, put_size n.0, m.1, put_size m.0, h.1, put_size h.0, c.requires.1)

pub returns : goal.returns
unfolding word_line
returns c =
    put_then c.number.ensures.0 (put_then c.number-2.ensures.0 (put_then c.hex.ensures.0 c.byte.ensures))
