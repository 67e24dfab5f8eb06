-- Each public call's contract, as the compiler has it, requires nothing and determines the outcome. Assumes nothing.
use Rattle.std.proofs.Common.{refl, ap}
use Rattle.numbers.specs.Determines.{Determines}
use Rattle.numbers.specs.DeterminesLaws.{by_result, by_made, by_outcome}
use Rattle.numbers.specs.RefusalLaws.{answer_of, answer_is}
use Rattle.vram.specs.contracts.Stop.of as of
use Rattle.vram.specs.contracts.Stop.length as length
use Rattle.vram.specs.contracts.Vram.fresh as fresh
use Rattle.vram.specs.contracts.Vram.ruled as ruled
use Rattle.vram.specs.contracts.Vram.cycle as cycle
use Rattle.vram.specs.contracts.read as read
use Rattle.vram.specs.contracts.Vram.clock as clock
use Rattle.vram.specs.contracts.Vram.clocks as clocks
use Rattle.vram.specs.contracts.Vram.given as given

pub of_once : Determines of.signature (λ M 𝓤. of.clauses {M = M} {𝓤 = 𝓤})
of_once = by_result refl (λ κs a v w. refl)

pub length_once : Determines length.signature (λ M 𝓤. length.clauses {M = M} {𝓤 = 𝓤})
length_once = by_result refl (λ κs a v w. refl)

pub fresh_once : Determines fresh.signature (λ M 𝓤. fresh.clauses {M = M} {𝓤 = 𝓤})
fresh_once = by_result refl (λ κs a v w. refl)

pub ruled_once : Determines ruled.signature (λ M 𝓤. ruled.clauses {M = M} {𝓤 = 𝓤})
ruled_once = by_result refl (λ κs a v w. refl)

pub cycle_once : Determines cycle.signature (λ M 𝓤. cycle.clauses {M = M} {𝓤 = 𝓤})
cycle_once =
    by_outcome refl (λ κs a o. (answer_of o.given o.after.state, (tt, (o.after.memory, (o.after.serial, (tt, tt))))))
    (λ κs a x. ap (λ r. (r, x.1)) (answer_is a.0 x.0))

pub read_once : Determines read.signature (λ M 𝓤. read.clauses {M = M} {𝓤 = 𝓤})
read_once = by_result refl (λ κs a v w. refl)

pub clock_once : Determines clock.signature (λ M 𝓤. clock.clauses {M = M} {𝓤 = 𝓤})
clock_once = by_made refl (λ κs a d. answer_of d.number (d.state, d.word)) (λ κs a r. answer_is (_, 0) r) (λ κs a v w. refl)

pub clocks_once : Determines clocks.signature (λ M 𝓤. clocks.clauses {M = M} {𝓤 = 𝓤})
clocks_once = by_made refl (λ κs a d. answer_of d.number (d.state, d.through)) (λ κs a r. answer_is (_, 0) r) (λ κs a v w. refl)

pub given_once : Determines given.signature (λ M 𝓤. given.clauses {M = M} {𝓤 = 𝓤})
given_once = by_made refl (λ κs a n. answer_of n tt) (λ κs a r. answer_is tt r) (λ κs a v w. refl)
