-- `list::fields::headed` meets its contract. Assumes nothing.
use Rattle.list.proofs.fields.headed.Goals as goal

pub returns : goal.returns
returns c = rw (c.body_length.ensures.0, c.word_at.ensures, c.known.ensures)
