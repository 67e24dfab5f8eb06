-- `page::rectangles::whole` meets its contract. Assumes nothing.
use Rattle.page.specs.Rectangles.{whole}
use Rattle.page.proofs.rectangles.whole.Goals as goal

pub returns : goal.returns
unfolding whole
returns c = rw c.sized.ensures
