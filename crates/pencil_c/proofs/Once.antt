-- Each export's contract, as the compiler has it, requires nothing and determines the outcome. Assumes nothing.
use Rattle.std.proofs.Common.{refl}
use Rattle.numbers.specs.Determines.{Determines}
use Rattle.numbers.specs.DeterminesLaws.{by_outcome}
use Rattle.pencil_c.specs.contracts.run.linkshoar_pencil_run as pencil_run
use Rattle.pencil_c.specs.contracts.marked.linkshoar_pencil_run_marked as pencil_run_marked

pub pencil_run_once : Determines pencil_run.signature (λ M 𝓤. pencil_run.clauses {M = M} {𝓤 = 𝓤})
pencil_run_once = by_outcome refl (λ κs a o. (o.answer, (tt, (o.memory, (o.serial, (tt, tt)))))) (λ κs a x. refl)

pub pencil_run_marked_once : Determines pencil_run_marked.signature (λ M 𝓤. pencil_run_marked.clauses {M = M} {𝓤 = 𝓤})
pencil_run_marked_once = by_outcome refl (λ κs a o. (o.answer, (tt, (o.memory, (o.serial, (o.marks, (tt, tt))))))) (λ κs a x. refl)
