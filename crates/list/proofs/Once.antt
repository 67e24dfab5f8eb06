-- Each public call's contract, as the compiler has it, requires nothing and determines the outcome. Assumes nothing.
use Rattle.std.proofs.Common.{refl, ap}
use Rattle.numbers.specs.Determines.{Determines}
use Rattle.numbers.specs.DeterminesLaws.{by_result, by_made, by_outcome}
use Rattle.list.proofs.VerdictAnswer.{verdict_answer, verdict_is}
use Rattle.list.specs.contracts.number_at as number_at
use Rattle.list.specs.contracts.sized as sized
use Rattle.list.specs.contracts.head_of as head_of
use Rattle.list.specs.contracts.check as check
use Rattle.list.specs.contracts.RefusedFromRefusal.from as from_refusal
use Rattle.list.specs.contracts.run as run
use Rattle.list.specs.contracts.fields.waits as waits
use Rattle.list.specs.contracts.left.opens as opens
use Rattle.list.specs.contracts.left.left_behind as left_behind

pub number_at_once : Determines number_at.signature (λ M 𝓤. number_at.clauses {M = M} {𝓤 = 𝓤})
number_at_once = by_result refl (λ κs a v w. refl)

pub sized_once : Determines sized.signature (λ M 𝓤. sized.clauses {M = M} {𝓤 = 𝓤})
sized_once = by_result refl (λ κs a v w. refl)

pub head_once : Determines head_of.signature (λ M 𝓤. head_of.clauses {M = M} {𝓤 = 𝓤})
head_once = by_result refl (λ κs a v w. refl)

pub check_once : Determines check.signature (λ M 𝓤. check.clauses {M = M} {𝓤 = 𝓤})
check_once = by_made refl (λ κs a v. verdict_answer v tt) (λ κs a r. verdict_is tt r) (λ κs a v w. refl)

pub run_once : Determines run.signature (λ M 𝓤. run.clauses {M = M} {𝓤 = 𝓤})
run_once =
    by_outcome refl (λ κs a o. (verdict_answer o.given o.after.state, (tt, (o.after.memory, (o.after.serial, (tt, tt))))))
    (λ κs a x. ap (λ r. (r, x.1)) (verdict_is a.0 x.0))

pub waits_once : Determines waits.signature (λ M 𝓤. waits.clauses {M = M} {𝓤 = 𝓤})
waits_once = by_result refl (λ κs a v w. refl)

pub opens_once : Determines opens.signature (λ M 𝓤. opens.clauses {M = M} {𝓤 = 𝓤})
opens_once = by_result refl (λ κs a v w. refl)

pub left_behind_once : Determines left_behind.signature (λ M 𝓤. left_behind.clauses {M = M} {𝓤 = 𝓤})
left_behind_once = by_made refl (λ κs a v. verdict_answer v tt) (λ κs a r. verdict_is tt r) (λ κs a v w. refl)

pub from_refusal_once : Determines from_refusal.signature (λ M 𝓤. from_refusal.clauses {M = M} {𝓤 = 𝓤})
from_refusal_once = by_result refl (λ κs a v w. refl)
