-- Each public call's contract, as the compiler has it, requires nothing and determines the outcome. Assumes nothing.
use Rattle.std.proofs.Common.{refl, ap}
use Rattle.numbers.specs.Determines.{Determines}
use Rattle.numbers.specs.DeterminesLaws.{by_result, by_outcome}
use Rattle.list.proofs.VerdictAnswer.{verdict_answer, verdict_is}
use Rattle.pencil.specs.contracts.bits.has as has
use Rattle.pencil.specs.contracts.bits.strobed as strobed
use Rattle.pencil.specs.contracts.bits.let_through as let_through
use Rattle.pencil.specs.contracts.word.in_force as in_force
use Rattle.pencil.specs.contracts.word.write_bits as write_bits
use Rattle.pencil.specs.contracts.block.bits_left as bits_left
use Rattle.pencil.specs.contracts.run as run
use Rattle.pencil.specs.contracts.run_marked as run_marked

pub has_once : Determines has.signature (λ M 𝓤. has.clauses {M = M} {𝓤 = 𝓤})
has_once = by_result refl (λ κs a v w. refl)

pub strobed_once : Determines strobed.signature (λ M 𝓤. strobed.clauses {M = M} {𝓤 = 𝓤})
strobed_once = by_result refl (λ κs a v w. refl)

pub let_through_once : Determines let_through.signature (λ M 𝓤. let_through.clauses {M = M} {𝓤 = 𝓤})
let_through_once = by_result refl (λ κs a v w. refl)

pub in_force_once : Determines in_force.signature (λ M 𝓤. in_force.clauses {M = M} {𝓤 = 𝓤})
in_force_once = by_result refl (λ κs a v w. refl)

pub write_bits_once : Determines write_bits.signature (λ M 𝓤. write_bits.clauses {M = M} {𝓤 = 𝓤})
write_bits_once = by_result refl (λ κs a v w. refl)

pub bits_left_once : Determines bits_left.signature (λ M 𝓤. bits_left.clauses {M = M} {𝓤 = 𝓤})
bits_left_once = by_result refl (λ κs a v w. refl)

pub run_once : Determines run.signature (λ M 𝓤. run.clauses {M = M} {𝓤 = 𝓤})
run_once =
    by_outcome refl (λ κs a o. (verdict_answer o.given o.after.state, (tt, (o.after.memory, (o.after.serial, (tt, tt))))))
    (λ κs a x. ap (λ r. (r, x.1)) (verdict_is a.0 x.0))

pub run_marked_once : Determines run_marked.signature (λ M 𝓤. run_marked.clauses {M = M} {𝓤 = 𝓤})
run_marked_once =
    by_outcome refl (λ κs a o. (verdict_answer o.given o.after.state, (tt, (o.after.memory, (o.after.serial, (o.marks, (tt, tt)))))))
    (λ κs a x. ap (λ r. (r, x.1)) (verdict_is a.0 x.0))
