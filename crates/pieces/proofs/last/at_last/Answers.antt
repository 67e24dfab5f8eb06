-- `pieces::last::at_last` meets its contract. Assumes nothing.
use Rattle.std.proofs.Common.{sym, ap, ◌∙◌}
use Rattle.std.proofs.lemmas.Result.{err_from_is_err_and}
use Rattle.numbers.specs.RefusalLaws.{number_not_zero}
use Rattle.pieces.specs.declared.Pieces.{Pieces}
use Rattle.pieces.proofs.LineLaws.{so_far_zero, last_bad, last_cut, last_left}
use Rattle.pieces.proofs.last.at_last.Goals as goal

pub returns-in_err-so_far : goal.returns-in_err-so_far
returns-in_err-so_far c =
    let p = err_from_is_err_and c.from_residual.result c.from_residual.ensures.1 in
    rw (p.1, p.2) (last_bad _ _ c.in_err-so_far.ensures (number_not_zero _))

pub returns-then-p-ne0 : goal.returns-then-p-ne0
returns-then-p-ne0 c =
    let e = ap (λ (q : Pieces). q.count) c.requires.whole in
    sym (last_cut _ (so_far_zero _ c.in_ok-so_far.ensures) (λ z. c.if-p-ne0.true (sym e ∙ z)))

pub returns : goal.returns
returns c =
    let e = ap (λ (q : Pieces). q.count) c.requires.whole in
    c.left_behind.ensures ∙ sym (last_left _ (so_far_zero _ c.in_ok-so_far.ensures) (e ∙ c.if-p-ne0.false))
