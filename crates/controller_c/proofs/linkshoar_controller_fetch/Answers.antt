-- `controller_c::linkshoar_controller_fetch` meets its contract. Assumes nothing.
use Rattle.std.specs.Prelude.{◌≡◌}
use Rattle.std.specs.Prelude.Result.{Ok, Err}
use Rattle.controller.specs.declared.Controller.{Controller}
use Rattle.controller.specs.Calls.{fetched_by, fetch_call}
use Rattle.controller_c.specs.CallLaws.{fetch_answered}
use Rattle.controller_c.proofs.linkshoar_controller_fetch.Goals as goal

pub returns-in-Ok : goal.returns-in-Ok
returns-in-Ok c =
    let answer = Ok (c.in-Ok.after, c.in-Ok.address) in
    rw c.from.ensures
    (fetch_answered c.args.state (λ (s : Controller). fetched_by s answer ≡ fetch_call s) c.try_from.result answer c.try_from.ensures
    c.in-Ok.ensures (λ p. p))

pub returns-in-Err : goal.returns-in-Err
returns-in-Err c =
    let answer = Err c.in-Err.refusal in
    rw c.from-in-Err.ensures
    (fetch_answered c.args.state (λ (s : Controller). fetched_by s answer ≡ fetch_call s) c.try_from.result answer c.try_from.ensures
    c.in-Err.ensures (λ p. p))
