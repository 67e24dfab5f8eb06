-- `list::fields::word_at` meets its contract. Assumes nothing.
use Rattle.list.specs.Tags.{word}
use Rattle.list.proofs.fields.word_at.Goals as goal

pub returns : goal.returns
unfolding word
returns c = rw (c.from.ensures, c.from-2.ensures)
