-- Each export's contract, as the compiler has it, is that of the call below, which requires nothing and determines the outcome. Assumes nothing.
use Rattle.numbers.specs.Determines.{Determines}
use Rattle.palette.proofs.Once.{write_lent_once as lent_write_once, read_lent_once as lent_read_once}
use Rattle.palette_archive.specs.contracts.linkshoar_palette_write_lent as palette_write_lent
use Rattle.palette_archive.specs.contracts.linkshoar_palette_read_lent as palette_read_lent

pub palette_write_lent_once : Determines palette_write_lent.signature (λ M 𝓤. palette_write_lent.clauses {M = M} {𝓤 = 𝓤})
palette_write_lent_once = lent_write_once

pub palette_read_lent_once : Determines palette_read_lent.signature (λ M 𝓤. palette_read_lent.clauses {M = M} {𝓤 = 𝓤})
palette_read_lent_once = lent_read_once
