-- Each public call's contract, as the compiler has it, requires nothing and determines the outcome. Assumes nothing.
use Rattle.std.proofs.Common.{refl, ap}
use Rattle.numbers.specs.Determines.{Determines}
use Rattle.numbers.specs.DeterminesLaws.{by_outcome}
use Rattle.numbers.specs.RefusalLaws.{answer_of, answer_is}
use Rattle.panel.specs.contracts.run_at as run_at
use Rattle.panel.specs.contracts.run as run
use Rattle.panel.specs.contracts.run_six as run_six

pub run_at_once : Determines run_at.signature (λ M 𝓤. run_at.clauses {M = M} {𝓤 = 𝓤})
run_at_once = by_outcome refl (λ κs a o. (answer_of o.answer.number o.answer.state, (tt, (tt, (tt, (tt, (tt, (tt, (tt, (o.buffer, tt)))))))))) (λ κs a x. ap (λ r. (r, x.1)) (answer_is a.1.0 x.0))

pub run_once : Determines run.signature (λ M 𝓤. run.clauses {M = M} {𝓤 = 𝓤})
run_once = by_outcome refl (λ κs a o. (answer_of o.answer.number o.answer.state, (tt, (tt, (tt, (tt, (tt, (tt, (o.buffer, tt))))))))) (λ κs a x. ap (λ r. (r, x.1)) (answer_is a.0 x.0))

pub run_six_once : Determines run_six.signature (λ M 𝓤. run_six.clauses {M = M} {𝓤 = 𝓤})
run_six_once = by_outcome refl (λ κs a o. (answer_of o.answer.number o.answer.state, (tt, (tt, (tt, (tt, (tt, (tt, (o.buffer, tt))))))))) (λ κs a x. ap (λ r. (r, x.1)) (answer_is a.0 x.0))
