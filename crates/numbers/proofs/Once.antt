-- Each public call's contract, as the compiler has it, requires nothing and determines the outcome. Assumes nothing.
use Rattle.std.specs.Prelude.{refl}
use Rattle.numbers.specs.Determines.{Determines}
use Rattle.numbers.specs.DeterminesLaws.{by_result, by_made}
use Rattle.numbers.specs.RefusalLaws.{answer_of, answer_is}
use Rattle.numbers.specs.contracts.refuse as refuse
use Rattle.numbers.specs.contracts.lowest as lowest
use Rattle.numbers.specs.contracts.U32FromRefusal.from as from_refusal

pub refuse_once : Determines refuse.signature (λ M 𝓤. refuse.clauses {M = M} {𝓤 = 𝓤})
refuse_once = by_made refl (λ κs a n. answer_of n tt) (λ κs a r. answer_is tt r) (λ κs a v w. refl)

pub lowest_once : Determines lowest.signature (λ M 𝓤. lowest.clauses {M = M} {𝓤 = 𝓤})
lowest_once = by_result refl (λ κs a v w. refl)

pub from_refusal_once : Determines from_refusal.signature (λ M 𝓤. from_refusal.clauses {M = M} {𝓤 = 𝓤})
from_refusal_once = by_result refl (λ κs a v w. refl)
