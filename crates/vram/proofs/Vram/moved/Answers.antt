-- `vram::Vram::moved` meets its contract. Assumes nothing.
use Rattle.std.proofs.Common.{ℕ, ◌-◌, ap, ◌∙◌, arith}
use Rattle.vram.specs.Serial.{at, after}
use Rattle.vram.specs.declared.Waiting.TheVariants.{None}
use Rattle.vram.proofs.Moves.{stays, goes_round, jumps}
use Rattle.vram.proofs.Vram.moved.Goals as goal

pub returns-in-Tap : goal.returns-in-Tap
returns-in-Tap c =
    let a = c.args in
    ap (λ (x : ℕ). at a.self x None)
    (c.advance.ensures.0 ∙ ap (λ (x : ℕ). after c.in-Tap.tap (a.count - x)) c.through-through.ensures)
    ∙ jumps a.self a.count c.advance-later.ensures.1 c.in-Tap.tap c.advance.ensures.1 c.in-Tap.is
    (omega (arith, c.if-through-count.true, c.through-through.ensures))

pub returns-in_default : goal.returns-in_default
returns-in_default c =
    let a = c.args in
    ap (λ (x : ℕ). at a.self x a.self.waiting) c.advance-later.ensures.0
    ∙ stays a.self a.count c.advance-later.ensures.1 (omega (arith, c.if-through-count.false, c.through-through.ensures))

pub returns-in_default-2 : goal.returns-in_default-2
returns-in_default-2 c =
    let a = c.args in
    ap (at a.self c.advance-later.result) c.in_default.is
    ∙ ap (λ (x : ℕ). at a.self x None) c.advance-later.ensures.0
    ∙ goes_round a.self a.count c.advance-later.ensures.1 c.in_default.is
