-- Each call of the plain engine has the contract of the fast engine's, as the compiler has the two: whoever calls cannot tell them apart.
-- Change request M-105. Assumes nothing.
use Rattle.std.proofs.Common.{◌≡◌, refl}
use Rattle.numbers.specs.Determines.{Contract}
use Rattle.numbers.specs.DeterminesLaws.{same_contract}
use Rattle.list.proofs.CallLaws.{calls_same}
use Rattle.marks.proofs.CallLaws.{marked_same}
use Rattle.list.specs.contracts.run as list_run
use Rattle.marks.specs.contracts.run as marks_run
use Rattle.pencil.proofs.EngineLaws.{pencil_effect}
use Rattle.pencil.specs.contracts.run as pencil_run
use Rattle.pencil.specs.contracts.run_marked as pencil_run_marked

-- the contracts of `list::run` and of `pencil::run`
abbrev pub fast : Contract list_run.signature
fast M 𝓤 = list_run.clauses {M = M} {𝓤 = 𝓤}

abbrev pub plain : Contract list_run.signature
plain M 𝓤 = pencil_run.clauses {M = M} {𝓤 = 𝓤}

pub run_alike : plain ≡ fast
run_alike = same_contract list_run.signature {c = plain} {d = fast} refl refl (λ κs a. calls_same pencil_effect _ _)

-- those of `marks::run` and of `pencil::run_marked`
abbrev pub fast_marked : Contract marks_run.signature
fast_marked M 𝓤 = marks_run.clauses {M = M} {𝓤 = 𝓤}

abbrev pub plain_marked : Contract marks_run.signature
plain_marked M 𝓤 = pencil_run_marked.clauses {M = M} {𝓤 = 𝓤}

pub run_marked_alike : plain_marked ≡ fast_marked
run_marked_alike = same_contract marks_run.signature {c = plain_marked} {d = fast_marked} refl refl (λ κs a. marked_same pencil_effect _ _ _)
