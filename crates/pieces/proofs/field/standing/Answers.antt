-- `pieces::field::standing` meets its contract. Assumes nothing.
use Rattle.std.proofs.Common.{sym, ◌∙◌, eq-eqb, ne_eqb}
use Rattle.pieces.specs.Pieces.{pad}
use Rattle.pieces.proofs.TurnLaws.{done_number, refused_number}
use Rattle.pieces.proofs.field.standing.Goals as goal

pub returns-then-is_ok : goal.returns-then-is_ok
unfolding pad
returns-then-is_ok c =
    rw (c.number.ensures, eq-eqb _ _ (done_number c.args.answer (sym c.is_ok.ensures.value ∙ c.if-is_ok.true)))

pub returns-else-is_ok : goal.returns-else-is_ok
unfolding pad
returns-else-is_ok c =
    rw (c.number.ensures, ne_eqb _ _ (refused_number c.args.answer (sym c.is_ok.ensures.value ∙ c.if-is_ok.false)))
