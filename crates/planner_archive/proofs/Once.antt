-- The export's contract, as the compiler has it, is that of the call below, which requires nothing and determines the outcome. Assumes nothing.
use Rattle.numbers.specs.Determines.{Determines}
use Rattle.planner.proofs.Once.{fill_once as planner_fill_once}
use Rattle.planner_archive.specs.contracts.linkshoar_fill as fill

pub fill_once : Determines fill.signature (λ M 𝓤. fill.clauses {M = M} {𝓤 = 𝓤})
fill_once = planner_fill_once
