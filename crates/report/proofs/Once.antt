-- The public call's contract, as the compiler has it, requires nothing and determines the outcome. Assumes nothing.
use Rattle.std.proofs.Common.{refl, ap}
use Rattle.numbers.specs.Determines.{Determines}
use Rattle.numbers.specs.DeterminesLaws.{by_outcome}
use Rattle.numbers.specs.RefusalLaws.{answer_of, answer_is}
use Rattle.report.specs.contracts.report as report

pub report_once : Determines report.signature (λ M 𝓤. report.clauses {M = M} {𝓤 = 𝓤})
report_once = by_outcome refl (λ κs a o. (answer_of o.answer.number o.answer.bytes, (tt, (o.buffer, tt)))) (λ κs a x. ap (λ r. (r, x.1)) (answer_is 0 x.0))
