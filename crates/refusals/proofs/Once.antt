-- Each public call's contract, as the compiler has it, requires nothing and determines the outcome. Assumes nothing.
use Rattle.std.proofs.Common.{refl}
use Rattle.numbers.specs.Determines.{Determines}
use Rattle.numbers.specs.DeterminesLaws.{by_result, by_made}
use Rattle.numbers.specs.RefusalLaws.{answer_of, answer_is}
use Rattle.refusals.specs.contracts.fitted as fitted
use Rattle.refusals.specs.contracts.placed as placed
use Rattle.refusals.specs.contracts.write_refusal as write_refusal
use Rattle.refusals.specs.contracts.load_refusal as load_refusal
use Rattle.refusals.specs.contracts.full_refusal as full_refusal
use Rattle.refusals.specs.contracts.split_refusal as split_refusal
use Rattle.refusals.specs.contracts.partition_ok as partition_ok
use Rattle.refusals.specs.contracts.stop_refusal as stop_refusal

pub fitted_once : Determines fitted.signature (λ M 𝓤. fitted.clauses {M = M} {𝓤 = 𝓤})
fitted_once = by_result refl (λ κs a v w. refl)

pub placed_once : Determines placed.signature (λ M 𝓤. placed.clauses {M = M} {𝓤 = 𝓤})
placed_once = by_made refl (λ κs a n. answer_of n tt) (λ κs a r. answer_is tt r) (λ κs a v w. refl)

pub write_refusal_once : Determines write_refusal.signature (λ M 𝓤. write_refusal.clauses {M = M} {𝓤 = 𝓤})
write_refusal_once = by_made refl (λ κs a n. answer_of n tt) (λ κs a r. answer_is tt r) (λ κs a v w. refl)

pub load_refusal_once : Determines load_refusal.signature (λ M 𝓤. load_refusal.clauses {M = M} {𝓤 = 𝓤})
load_refusal_once = by_made refl (λ κs a n. answer_of n tt) (λ κs a r. answer_is tt r) (λ κs a v w. refl)

pub full_refusal_once : Determines full_refusal.signature (λ M 𝓤. full_refusal.clauses {M = M} {𝓤 = 𝓤})
full_refusal_once = by_made refl (λ κs a n. answer_of n tt) (λ κs a r. answer_is tt r) (λ κs a v w. refl)

pub split_refusal_once : Determines split_refusal.signature (λ M 𝓤. split_refusal.clauses {M = M} {𝓤 = 𝓤})
split_refusal_once = by_made refl (λ κs a n. answer_of n tt) (λ κs a r. answer_is tt r) (λ κs a v w. refl)

pub partition_ok_once : Determines partition_ok.signature (λ M 𝓤. partition_ok.clauses {M = M} {𝓤 = 𝓤})
partition_ok_once = by_result refl (λ κs a v w. refl)

pub stop_refusal_once : Determines stop_refusal.signature (λ M 𝓤. stop_refusal.clauses {M = M} {𝓤 = 𝓤})
stop_refusal_once = by_made refl (λ κs a n. answer_of n tt) (λ κs a r. answer_is tt r) (λ κs a v w. refl)
