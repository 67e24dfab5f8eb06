-- Each export's contract, as the compiler has it, requires nothing and determines the outcome. Assumes nothing.
use Rattle.std.proofs.Common.{refl}
use Rattle.numbers.specs.Determines.{Determines}
use Rattle.numbers.specs.DeterminesLaws.{by_result, by_outcome}
use Rattle.marks_c.specs.contracts.linkshoar_list_run_marked as run_marked
use Rattle.marks_c.specs.contracts.linkshoar_marks_clear as marks_clear
use Rattle.marks_c.specs.contracts.linkshoar_marks_next as marks_next

pub run_marked_once : Determines run_marked.signature (λ M 𝓤. run_marked.clauses {M = M} {𝓤 = 𝓤})
run_marked_once = by_outcome refl (λ κs a o. (o.answer, (tt, (o.memory, (o.serial, (o.marks, (tt, tt))))))) (λ κs a x. refl)

pub marks_clear_once : Determines marks_clear.signature (λ M 𝓤. marks_clear.clauses {M = M} {𝓤 = 𝓤})
marks_clear_once = by_outcome refl (λ κs a o. (o.number, (o.marks, tt))) (λ κs a x. refl)

pub marks_next_once : Determines marks_next.signature (λ M 𝓤. marks_next.clauses {M = M} {𝓤 = 𝓤})
marks_next_once = by_result refl (λ κs a v w. refl)
