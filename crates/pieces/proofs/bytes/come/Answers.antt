-- `pieces::bytes::come` meets its contract. Assumes nothing.
use Rattle.std.proofs.Common.{ℕ, sym, ap, ◌∙◌, arith, add-zero}
use Rattle.numbers.specs.Refusal.{number_of}
use Rattle.pieces.specs.Line.{limit}
use Rattle.pieces.specs.Pieces.{pack}
use Rattle.pieces.specs.Turns.{standing}
use Rattle.pieces.proofs.ByteLaws.{come_holds, come_moves}
use Rattle.pieces.proofs.bytes.come.Goals as goal

pub overflow_add-p : goal.overflow_add-p
unfolding limit
overflow_add-p c =
    let m = rw c.in-Ok-Some.field-0-is at c.in-Ok-Some.ensures in
    let k = c.requires.0 in
    omega (arith, m.1.inside, k.size, k.fits)

pub returns-in-Ok-None : goal.returns-in-Ok-None
returns-in-Ok-None c =
    let p = c.args.p in
    let m = rw c.in-Ok-None.field-0-is at c.in-Ok-None.ensures in
    let r = come_holds _ _ _ _ _ c.requires.0 _ _ _ _ m.1 (sym m.0) in
    (ap (λ (n : ℕ). record { held = p.held; count = p.count; start = p.start; number = n; left = p.left }) c.requires.1 ∙ r.0, r.1)

pub returns-in-Ok-Some : goal.returns-in-Ok-Some
returns-in-Ok-Some c =
    let m = rw c.in-Ok-Some.field-0-is at c.in-Ok-Some.ensures in
    come_moves _ _ _ _ _ c.requires.0 _ _ _ _ m.1 (sym m.0) _ c.standing.ensures

pub returns-in-Err : goal.returns-in-Err
returns-in-Err c =
    let p = c.args.p in
    let m = c.in-Err.ensures in
    come_moves _ _ _ _ _ c.requires.0 _ _ _ _ m.1 (sym m.0) _
    (c.standing-in-Err.ensures ∙ ap (λ (i : ℕ). pack (standing (number_of c.in-Err.refusal) i p.left)) (sym (add-zero p.start)))
