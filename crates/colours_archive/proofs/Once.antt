-- Each export's contract, as the compiler has it, is that of the call below, which requires nothing and determines the outcome. Assumes nothing.
use Rattle.numbers.specs.Determines.{Determines}
use Rattle.colours_c.proofs.Once.{fresh_once as colours_c_fresh_once, write_once as colours_c_write_once, write_low_once as colours_c_write_low_once, write_high_once as colours_c_write_high_once, read_once as colours_c_read_once, read_low_once as colours_c_read_low_once, read_high_once as colours_c_read_high_once, pixel_once as colours_c_pixel_once}
use Rattle.colours_archive.specs.contracts.linkshoar_colours_fresh as colours_fresh
use Rattle.colours_archive.specs.contracts.linkshoar_colours_write as colours_write
use Rattle.colours_archive.specs.contracts.linkshoar_colours_write_low as colours_write_low
use Rattle.colours_archive.specs.contracts.linkshoar_colours_write_high as colours_write_high
use Rattle.colours_archive.specs.contracts.linkshoar_colours_read as colours_read
use Rattle.colours_archive.specs.contracts.linkshoar_colours_read_low as colours_read_low
use Rattle.colours_archive.specs.contracts.linkshoar_colours_read_high as colours_read_high
use Rattle.colours_archive.specs.contracts.linkshoar_colours_pixel as colours_pixel

pub colours_fresh_once : Determines colours_fresh.signature (λ M 𝓤. colours_fresh.clauses {M = M} {𝓤 = 𝓤})
colours_fresh_once = colours_c_fresh_once

pub colours_write_once : Determines colours_write.signature (λ M 𝓤. colours_write.clauses {M = M} {𝓤 = 𝓤})
colours_write_once = colours_c_write_once

pub colours_write_low_once : Determines colours_write_low.signature (λ M 𝓤. colours_write_low.clauses {M = M} {𝓤 = 𝓤})
colours_write_low_once = colours_c_write_low_once

pub colours_write_high_once : Determines colours_write_high.signature (λ M 𝓤. colours_write_high.clauses {M = M} {𝓤 = 𝓤})
colours_write_high_once = colours_c_write_high_once

pub colours_read_once : Determines colours_read.signature (λ M 𝓤. colours_read.clauses {M = M} {𝓤 = 𝓤})
colours_read_once = colours_c_read_once

pub colours_read_low_once : Determines colours_read_low.signature (λ M 𝓤. colours_read_low.clauses {M = M} {𝓤 = 𝓤})
colours_read_low_once = colours_c_read_low_once

pub colours_read_high_once : Determines colours_read_high.signature (λ M 𝓤. colours_read_high.clauses {M = M} {𝓤 = 𝓤})
colours_read_high_once = colours_c_read_high_once

pub colours_pixel_once : Determines colours_pixel.signature (λ M 𝓤. colours_pixel.clauses {M = M} {𝓤 = 𝓤})
colours_pixel_once = colours_c_pixel_once
