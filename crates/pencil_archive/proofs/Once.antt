-- Each export's contract, as the compiler has it, is that of the call below, which requires nothing and determines the outcome. Assumes nothing.
use Rattle.numbers.specs.Determines.{Determines}
use Rattle.pencil_c.proofs.Once.{pencil_run_once as pencil_c_pencil_run_once, pencil_run_marked_once as pencil_c_pencil_run_marked_once}
use Rattle.pencil_archive.specs.contracts.linkshoar_pencil_run as pencil_run
use Rattle.pencil_archive.specs.contracts.linkshoar_pencil_run_marked as pencil_run_marked

pub pencil_run_once : Determines pencil_run.signature (λ M 𝓤. pencil_run.clauses {M = M} {𝓤 = 𝓤})
pencil_run_once = pencil_c_pencil_run_once

pub pencil_run_marked_once : Determines pencil_run_marked.signature (λ M 𝓤. pencil_run_marked.clauses {M = M} {𝓤 = 𝓤})
pencil_run_marked_once = pencil_c_pencil_run_marked_once
