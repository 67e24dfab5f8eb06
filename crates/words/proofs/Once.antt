-- Each public call's contract, as the compiler has it, requires nothing and determines the outcome. Assumes nothing.
use Rattle.std.proofs.Common.{refl}
use Rattle.numbers.specs.Determines.{Determines}
use Rattle.numbers.specs.DeterminesLaws.{by_result}
use Rattle.words.specs.contracts.merge as merge
use Rattle.words.specs.contracts.strobe_mask as strobe_mask
use Rattle.words.specs.contracts.column_allow as column_allow

pub merge_once : Determines merge.signature (λ M 𝓤. merge.clauses {M = M} {𝓤 = 𝓤})
merge_once = by_result refl (λ κs a v w. refl)

pub strobe_mask_once : Determines strobe_mask.signature (λ M 𝓤. strobe_mask.clauses {M = M} {𝓤 = 𝓤})
strobe_mask_once = by_result refl (λ κs a v w. refl)

pub column_allow_once : Determines column_allow.signature (λ M 𝓤. column_allow.clauses {M = M} {𝓤 = 𝓤})
column_allow_once = by_result refl (λ κs a v w. refl)
