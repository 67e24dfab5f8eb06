-- Each export's contract, as the compiler has it, is that of the call below, which requires nothing and determines the outcome. Assumes nothing.
use Rattle.numbers.specs.Determines.{Determines}
use Rattle.host.proofs.Once.{vram_fresh_once as host_vram_fresh_once, palette_fresh_once as host_palette_fresh_once, fill_once as host_fill_once, list_run_once as host_list_run_once, word_read_once as host_word_read_once, serial_clock_once as host_serial_clock_once, panel_run_once as host_panel_run_once, panel_run_six_once as host_panel_run_six_once, palette_write_once as host_palette_write_once, palette_read_once as host_palette_read_once}
use Rattle.host_archive.specs.contracts.linkshoar_vram_fresh as vram_fresh
use Rattle.host_archive.specs.contracts.linkshoar_palette_fresh as palette_fresh
use Rattle.host_archive.specs.contracts.linkshoar_fill as fill
use Rattle.host_archive.specs.contracts.linkshoar_list_run as list_run
use Rattle.host_archive.specs.contracts.linkshoar_word_read as word_read
use Rattle.host_archive.specs.contracts.linkshoar_serial_clock as serial_clock
use Rattle.host_archive.specs.contracts.linkshoar_panel_run as panel_run
use Rattle.host_archive.specs.contracts.linkshoar_panel_run_six as panel_run_six
use Rattle.host_archive.specs.contracts.linkshoar_palette_write as palette_write
use Rattle.host_archive.specs.contracts.linkshoar_palette_read as palette_read

pub vram_fresh_once : Determines vram_fresh.signature (λ M 𝓤. vram_fresh.clauses {M = M} {𝓤 = 𝓤})
vram_fresh_once = host_vram_fresh_once

pub palette_fresh_once : Determines palette_fresh.signature (λ M 𝓤. palette_fresh.clauses {M = M} {𝓤 = 𝓤})
palette_fresh_once = host_palette_fresh_once

pub fill_once : Determines fill.signature (λ M 𝓤. fill.clauses {M = M} {𝓤 = 𝓤})
fill_once = host_fill_once

pub list_run_once : Determines list_run.signature (λ M 𝓤. list_run.clauses {M = M} {𝓤 = 𝓤})
list_run_once = host_list_run_once

pub word_read_once : Determines word_read.signature (λ M 𝓤. word_read.clauses {M = M} {𝓤 = 𝓤})
word_read_once = host_word_read_once

pub serial_clock_once : Determines serial_clock.signature (λ M 𝓤. serial_clock.clauses {M = M} {𝓤 = 𝓤})
serial_clock_once = host_serial_clock_once

pub panel_run_once : Determines panel_run.signature (λ M 𝓤. panel_run.clauses {M = M} {𝓤 = 𝓤})
panel_run_once = host_panel_run_once

pub panel_run_six_once : Determines panel_run_six.signature (λ M 𝓤. panel_run_six.clauses {M = M} {𝓤 = 𝓤})
panel_run_six_once = host_panel_run_six_once

pub palette_write_once : Determines palette_write.signature (λ M 𝓤. palette_write.clauses {M = M} {𝓤 = 𝓤})
palette_write_once = host_palette_write_once

pub palette_read_once : Determines palette_read.signature (λ M 𝓤. palette_read.clauses {M = M} {𝓤 = 𝓤})
palette_read_once = host_palette_read_once
