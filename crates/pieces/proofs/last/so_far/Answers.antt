-- `pieces::last::so_far` meets its contract. Assumes nothing.
use Rattle.std.proofs.Common.{ℕ, sym, ap, ◌∙◌}
use Rattle.numbers.specs.RefusalLaws.{number_not_zero}
use Rattle.list.specs.Meaning.{bad}
use Rattle.pieces.specs.PackLaws.{unnamed_none}
use Rattle.pieces.proofs.LineLaws.{so_far_none, so_far_kept}
use Rattle.pieces.proofs.last.so_far.Goals as goal

pub returns-in-None : goal.returns-in-None
returns-in-None c = sym (so_far_none _ (unnamed_none _ c.requires.line (sym c.in-None.ensures.0)))

pub returns-in-Some : goal.returns-in-Some
returns-in-Some c =
    let e = c.in-Some.ensures.1 in
    ap (λ (n : ℕ). bad n c.args.p.start) e ∙ sym (so_far_kept _ (λ z. number_not_zero c.in-Some.refusal (e ∙ z)))
