-- `report::text::Page::words` meets its contract: one word more at each turn. Assumes nothing.
use Rattle.std.proofs.Common.{arith}
use Rattle.report.specs.Text.{word_lines}
use Rattle.report.specs.TextLaws.{put_nothing, put_size, lines_most, put_lines}
use Rattle.report.proofs.text.Page.words.Goals as goal

pub loop-i-init : goal.loop-i-init
unfolding word_lines
loop-i-init c = (omega arith, put_nothing _ _)

pub word-requires : goal.word-requires
word-requires c =
    let t = c.loop-i-test.true in
    let m = lines_most c.args.memory.now c.loop-i.i c.loop-i.invariant.0 in
    (omega (arith, c.requires.0, t), omega (arith, m, c.loop-i.invariant.1.end, put_size c.loop-i.invariant.1, c.requires.1, t))

pub loop-i-preserved : goal.loop-i-preserved
loop-i-preserved c =
    (omega (arith, c.loop-i-test.true), put_lines c.args.memory.now c.loop-i.i _ c.loop-i-test.true c.from.ensures c.loop-i.invariant.1 c.word.ensures)
