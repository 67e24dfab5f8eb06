-- `report::text::Page::bytes` meets its contract: one byte more at each turn. Assumes nothing.
use Rattle.std.proofs.Common.{refl, arith}
use Rattle.report.specs.TextLaws.{length_take_is, put_size, put_more}
use Rattle.report.proofs.text.Page.bytes.Goals as goal

pub byte-requires : goal.byte-requires
byte-requires c =
    let i = c.loop-byte.invariant in
    let n = length_take_is c.loop-byte.byte-index c.args.bytes.now i.0 in
    omega (arith, n, i.1.end, put_size i.1, c.requires, c.loop-byte-test.true)

pub loop-byte-preserved : goal.loop-byte-preserved
loop-byte-preserved c =
    (omega (arith, c.loop-byte-test.true), put_more c.args.bytes.now c.loop-byte.byte-index c.loop-byte-test.true refl c.loop-byte.invariant.1 c.byte.ensures)
