-- `page::rectangles::rectangle_of` meets its contract. Assumes nothing.
use Rattle.page.specs.Rectangles.{rectangle_of}
use Rattle.page.proofs.rectangles.rectangle_of.Goals as goal

pub returns : goal.returns
unfolding rectangle_of
returns c =
    rw (c.number_at-6.ensures, c.number_at-5.ensures, c.number_at-4.ensures, c.number_at-3.ensures, c.number_at-2.ensures, c.number_at.ensures)
