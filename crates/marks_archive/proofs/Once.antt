-- Each export's contract, as the compiler has it, is that of the call below, which requires nothing and determines the outcome. Assumes nothing.
use Rattle.numbers.specs.Determines.{Determines}
use Rattle.marks_c.proofs.Once.{run_marked_once as marks_c_run_marked_once, marks_clear_once as marks_c_marks_clear_once, marks_next_once as marks_c_marks_next_once}
use Rattle.marks_archive.specs.contracts.linkshoar_list_run_marked as list_run_marked
use Rattle.marks_archive.specs.contracts.linkshoar_marks_clear as marks_clear
use Rattle.marks_archive.specs.contracts.linkshoar_marks_next as marks_next

pub list_run_marked_once : Determines list_run_marked.signature (λ M 𝓤. list_run_marked.clauses {M = M} {𝓤 = 𝓤})
list_run_marked_once = marks_c_run_marked_once

pub marks_clear_once : Determines marks_clear.signature (λ M 𝓤. marks_clear.clauses {M = M} {𝓤 = 𝓤})
marks_clear_once = marks_c_marks_clear_once

pub marks_next_once : Determines marks_next.signature (λ M 𝓤. marks_next.clauses {M = M} {𝓤 = 𝓤})
marks_next_once = marks_c_marks_next_once
