-- Each public call's contract, as the compiler has it, requires nothing and determines the outcome. Assumes nothing.
use Rattle.std.proofs.Common.{refl}
use Rattle.numbers.specs.Determines.{Determines}
use Rattle.numbers.specs.DeterminesLaws.{by_result}
use Rattle.registers.specs.contracts.lawful as lawful
use Rattle.registers.specs.contracts.take as take
use Rattle.registers.specs.contracts.hand as hand
use Rattle.registers.specs.contracts.hand_answer as hand_answer
use Rattle.registers.specs.contracts.hand_ran as hand_ran
use Rattle.registers.specs.contracts.excluded as excluded
use Rattle.registers.specs.contracts.VramTryFromRegisters.try_from as try_take

pub lawful_once : Determines lawful.signature (λ M 𝓤. lawful.clauses {M = M} {𝓤 = 𝓤})
lawful_once = by_result refl (λ κs a v w. refl)

pub take_once : Determines take.signature (λ M 𝓤. take.clauses {M = M} {𝓤 = 𝓤})
take_once = by_result refl (λ κs a v w. refl)

pub hand_once : Determines hand.signature (λ M 𝓤. hand.clauses {M = M} {𝓤 = 𝓤})
hand_once = by_result refl (λ κs a v w. refl)

pub hand_answer_once : Determines hand_answer.signature (λ M 𝓤. hand_answer.clauses {M = M} {𝓤 = 𝓤})
hand_answer_once = by_result refl (λ κs a v w. refl)

pub hand_ran_once : Determines hand_ran.signature (λ M 𝓤. hand_ran.clauses {M = M} {𝓤 = 𝓤})
hand_ran_once = by_result refl (λ κs a v w. refl)

pub excluded_once : Determines excluded.signature (λ M 𝓤. excluded.clauses {M = M} {𝓤 = 𝓤})
excluded_once = by_result refl (λ κs a v w. refl)

pub try_take_once : Determines try_take.signature (λ M 𝓤. try_take.clauses {M = M} {𝓤 = 𝓤})
try_take_once = by_result refl (λ κs a v w. refl)
