-- Each public call's contract, as the compiler has it, requires nothing and determines the outcome. Assumes nothing.
use Rattle.std.proofs.Common.{refl, ap}
use Rattle.std.specs.Prelude.Option.{None}
use Rattle.numbers.specs.Determines.{Determines}
use Rattle.numbers.specs.DeterminesLaws.{by_made, by_outcome}
use Rattle.numbers.specs.RefusalLaws.{answer_of, answer_is}
use Rattle.list.proofs.VerdictAnswer.{verdict_answer, verdict_is}
use Rattle.marks.specs.contracts.run as run
use Rattle.marks.specs.contracts.mark_list as mark_list
use Rattle.marks.specs.contracts.clear as clear
use Rattle.marks.specs.contracts.next as next

pub run_once : Determines run.signature (λ M 𝓤. run.clauses {M = M} {𝓤 = 𝓤})
run_once =
    by_outcome refl (λ κs a o. (verdict_answer o.given o.after.state, (tt, (o.after.memory, (o.after.serial, (o.marks, (tt, tt)))))))
    (λ κs a x. ap (λ r. (r, x.1)) (verdict_is a.0 x.0))

pub mark_list_once : Determines mark_list.signature (λ M 𝓤. mark_list.clauses {M = M} {𝓤 = 𝓤})
mark_list_once =
    by_outcome refl (λ κs a o. (verdict_answer o.given tt, (tt, (tt, (tt, (o.marks, tt)))))) (λ κs a x. ap (λ r. (r, x.1)) (verdict_is tt x.0))

pub clear_once : Determines clear.signature (λ M 𝓤. clear.clauses {M = M} {𝓤 = 𝓤})
clear_once = by_outcome refl (λ κs a o. (answer_of o.number tt, (o.marks, tt))) (λ κs a x. ap (λ r. (r, x.1)) (answer_is tt x.0))

pub next_once : Determines next.signature (λ M 𝓤. next.clauses {M = M} {𝓤 = 𝓤})
next_once = by_made refl (λ κs a m. answer_of m.number m.found) (λ κs a r. answer_is None r) (λ κs a v w. refl)
