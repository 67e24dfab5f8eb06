-- `registers::hand_ran` meets its contract. Assumes nothing.
use Rattle.std.proofs.Common.{rules, ℕ, ap, ◌∙◌}
use Rattle.list.specs.Meaning.{bad}
use Rattle.registers.specs.State.{handed_answer}
use Rattle.registers.proofs.hand_ran.Goals as goal

pub returns-in-Ok : goal.returns-in-Ok
returns-in-Ok c = rw c.in-Ok.is c.hand_answer.ensures

pub returns-in-Err : goal.returns-in-Err
returns-in-Err c =
    rw c.in-Err.is (c.hand_answer-in-Err.ensures ∙ ap (λ (n : ℕ). handed_answer (bad n c.in-Err.refused.place) c.args.before) (search rules))
