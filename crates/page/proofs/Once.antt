-- The public call's contract, as the compiler has it, requires nothing and determines the outcome. Assumes nothing.
use Rattle.std.proofs.Common.{refl}
use Rattle.numbers.specs.Determines.{Determines}
use Rattle.numbers.specs.DeterminesLaws.{by_outcome}
use Rattle.page.specs.contracts.linkshoar_page as paged

pub page_once : Determines paged.signature (λ M 𝓤. paged.clauses {M = M} {𝓤 = 𝓤})
page_once = by_outcome refl (λ κs a o. (o.answer, (tt, (tt, (tt, (o.buffer, tt)))))) (λ κs a x. refl)
