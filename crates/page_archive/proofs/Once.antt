-- Each export's contract, as the compiler has it, is that of the call below, which requires nothing and determines the outcome. Assumes nothing.
use Rattle.numbers.specs.Determines.{Determines}
use Rattle.page.proofs.Once.{page_once as page_page_once}
use Rattle.page_archive.specs.contracts.linkshoar_page as page

pub page_once : Determines page.signature (λ M 𝓤. page.clauses {M = M} {𝓤 = 𝓤})
page_once = page_page_once
