-- `report::text::Page::lines` meets its contract. Assumes nothing.
use Rattle.std.proofs.Common.{refl, arith}
use Rattle.report.specs.TextLaws.{put_size, put_done}
use Rattle.report.proofs.text.Page.lines.Goals as goal

pub words-requires : goal.words-requires
words-requires c =
    (c.requires.2, omega (arith, c.answer.ensures.1, put_size c.answer.ensures.0, c.requires.2, c.requires.3))

pub returns-in-Ok : goal.returns-in-Ok
returns-in-Ok c = rw c.in-Ok.is (put_done _ _ refl c.answer.ensures.0 c.words.ensures)
