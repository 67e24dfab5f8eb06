-- Each export's contract, as the compiler has it, requires nothing and determines the outcome. Assumes nothing.
use Rattle.std.proofs.Common.{refl, sym, ap, ◌∙◌}
use Rattle.numbers.specs.Determines.{Determines}
use Rattle.numbers.specs.DeterminesLaws.{by_result, by_outcome, by_first}
use Rattle.host.specs.contracts.linkshoar_vram_fresh as vram_fresh
use Rattle.host.specs.contracts.linkshoar_palette_fresh as palette_fresh
use Rattle.host.specs.contracts.linkshoar_fill as fill
use Rattle.host.specs.contracts.linkshoar_list_run as list_run
use Rattle.host.specs.contracts.linkshoar_word_read as word_read
use Rattle.host.specs.contracts.linkshoar_serial_clock as serial_clock
use Rattle.host.specs.contracts.linkshoar_panel_run as panel_run
use Rattle.host.specs.contracts.linkshoar_panel_run_six as panel_run_six
use Rattle.host.specs.contracts.linkshoar_palette_write as palette_write
use Rattle.host.specs.contracts.linkshoar_palette_read as palette_read

pub vram_fresh_once : Determines vram_fresh.signature (λ M 𝓤. vram_fresh.clauses {M = M} {𝓤 = 𝓤})
vram_fresh_once = by_result refl (λ κs a v w. refl)

pub palette_fresh_once : Determines palette_fresh.signature (λ M 𝓤. palette_fresh.clauses {M = M} {𝓤 = 𝓤})
palette_fresh_once = by_result refl (λ κs a v w. refl)

pub fill_once : Determines fill.signature (λ M 𝓤. fill.clauses {M = M} {𝓤 = 𝓤})
fill_once =
    by_first refl (λ κs a x y p q. ap (λ o. (o.answer, (tt, (tt, (tt, (tt, (tt, (tt, (tt, (tt, (o.buffer, tt))))))))))) (p ∙ sym q))

pub list_run_once : Determines list_run.signature (λ M 𝓤. list_run.clauses {M = M} {𝓤 = 𝓤})
list_run_once = by_outcome refl (λ κs a o. (o.answer, (tt, (o.memory, (o.serial, (tt, tt)))))) (λ κs a x. refl)

pub word_read_once : Determines word_read.signature (λ M 𝓤. word_read.clauses {M = M} {𝓤 = 𝓤})
word_read_once = by_result refl (λ κs a v w. refl)

pub serial_clock_once : Determines serial_clock.signature (λ M 𝓤. serial_clock.clauses {M = M} {𝓤 = 𝓤})
serial_clock_once = by_result refl (λ κs a v w. refl)

pub panel_run_once : Determines panel_run.signature (λ M 𝓤. panel_run.clauses {M = M} {𝓤 = 𝓤})
panel_run_once = by_outcome refl (λ κs a o. (o.answer, (tt, (tt, (tt, (tt, (tt, (tt, (o.buffer, tt))))))))) (λ κs a x. refl)

pub panel_run_six_once : Determines panel_run_six.signature (λ M 𝓤. panel_run_six.clauses {M = M} {𝓤 = 𝓤})
panel_run_six_once = by_outcome refl (λ κs a o. (o.answer, (tt, (tt, (tt, (tt, (tt, (tt, (o.buffer, tt))))))))) (λ κs a x. refl)

pub palette_write_once : Determines palette_write.signature (λ M 𝓤. palette_write.clauses {M = M} {𝓤 = 𝓤})
palette_write_once = by_outcome refl (λ κs a o. (o.answer, (tt, (o.table, (tt, (tt, tt)))))) (λ κs a x. refl)

pub palette_read_once : Determines palette_read.signature (λ M 𝓤. palette_read.clauses {M = M} {𝓤 = 𝓤})
palette_read_once = by_result refl (λ κs a v w. refl)
