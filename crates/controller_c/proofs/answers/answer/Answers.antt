-- `controller_c::answers::answer` meets its contract. Assumes nothing.
use Rattle.std.specs.Prelude.Result.{Ok, Err}
use Rattle.controller_c.specs.CallLaws.{call_answered}
use Rattle.controller_c.proofs.answers.answer.Goals as goal

pub returns-in-Ok : goal.returns-in-Ok
returns-in-Ok g c = λ k f. rw c.from.ensures (call_answered k c.args.state _ c.try_from.result (Ok c.in-Ok.done) c.try_from.ensures c.in-Ok.ensures (f (Ok c.in-Ok.done)))

pub returns-in-Err : goal.returns-in-Err
returns-in-Err g c = λ k f. rw c.from-in-Err.ensures (call_answered k c.args.state _ c.try_from.result (Err c.in-Err.refusal) c.try_from.ensures c.in-Err.ensures (f (Err c.in-Err.refusal)))
