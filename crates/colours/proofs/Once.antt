-- Each public call's contract, as the compiler has it, requires nothing and determines the outcome. Assumes nothing.
use Rattle.std.proofs.Common.{refl, ap}
use Rattle.numbers.specs.Determines.{Determines}
use Rattle.numbers.specs.DeterminesLaws.{by_result, by_outcome}
use Rattle.numbers.specs.RefusalLaws.{answer_of, answer_is}
use Rattle.colours.specs.Output.{zeros}
use Rattle.colours.specs.contracts.Colours.fresh as fresh
use Rattle.colours.specs.contracts.Output.levels as levels
use Rattle.colours.specs.contracts.Colours.waits as waits
use Rattle.colours.specs.contracts.Colours.low as low
use Rattle.colours.specs.contracts.Colours.write as write
use Rattle.colours.specs.contracts.Colours.write_low as write_low
use Rattle.colours.specs.contracts.Colours.write_high as write_high
use Rattle.colours.specs.contracts.reads.read as read
use Rattle.colours.specs.contracts.reads.read_low as read_low
use Rattle.colours.specs.contracts.reads.read_high as read_high
use Rattle.colours.specs.contracts.asks.ask as ask
use Rattle.colours.specs.contracts.Colours.pixel as pixel

pub fresh_once : Determines fresh.signature (λ M 𝓤. fresh.clauses {M = M} {𝓤 = 𝓤})
fresh_once = by_result refl (λ κs a v w. refl)

pub levels_once : Determines levels.signature (λ M 𝓤. levels.clauses {M = M} {𝓤 = 𝓤})
levels_once = by_result refl (λ κs a v w. refl)

pub waits_once : Determines waits.signature (λ M 𝓤. waits.clauses {M = M} {𝓤 = 𝓤})
waits_once = by_result refl (λ κs a v w. refl)

pub low_once : Determines low.signature (λ M 𝓤. low.clauses {M = M} {𝓤 = 𝓤})
low_once = by_result refl (λ κs a v w. refl)

pub write_once : Determines write.signature (λ M 𝓤. write.clauses {M = M} {𝓤 = 𝓤})
write_once =
    by_outcome refl (λ κs a o. (answer_of o.answer.number o.answer.state, (tt, (o.table, (tt, (tt, tt))))))
    (λ κs a x. ap (λ r. (r, x.1)) (answer_is a.0 x.0))

pub write_low_once : Determines write_low.signature (λ M 𝓤. write_low.clauses {M = M} {𝓤 = 𝓤})
write_low_once =
    by_outcome refl (λ κs a r. (answer_of r.number r.state, (tt, (tt, tt)))) (λ κs a x. ap (λ r. (r, x.1)) (answer_is a.0 x.0))

pub write_high_once : Determines write_high.signature (λ M 𝓤. write_high.clauses {M = M} {𝓤 = 𝓤})
write_high_once =
    by_outcome refl (λ κs a o. (answer_of o.answer.number o.answer.state, (tt, (o.table, (tt, (tt, tt))))))
    (λ κs a x. ap (λ r. (r, x.1)) (answer_is a.0 x.0))

pub read_once : Determines read.signature (λ M 𝓤. read.clauses {M = M} {𝓤 = 𝓤})
read_once = by_result refl (λ κs a v w. refl)

pub read_low_once : Determines read_low.signature (λ M 𝓤. read_low.clauses {M = M} {𝓤 = 𝓤})
read_low_once = by_result refl (λ κs a v w. refl)

pub read_high_once : Determines read_high.signature (λ M 𝓤. read_high.clauses {M = M} {𝓤 = 𝓤})
read_high_once = by_result refl (λ κs a v w. refl)

pub ask_once : Determines ask.signature (λ M 𝓤. ask.clauses {M = M} {𝓤 = 𝓤})
ask_once =
    by_outcome refl (λ κs a r. (answer_of r.number r.output, (tt, (tt, tt)))) (λ κs a x. ap (λ r. (r, x.1)) (answer_is zeros x.0))

pub pixel_once : Determines pixel.signature (λ M 𝓤. pixel.clauses {M = M} {𝓤 = 𝓤})
pixel_once =
    by_outcome refl (λ κs a r. (answer_of r.number (r.state, r.output), (tt, (tt, (tt, tt)))))
    (λ κs a x. ap (λ r. (r, x.1)) (answer_is (a.0, zeros) x.0))
