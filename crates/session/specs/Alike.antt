-- Each export of the plain engine has the contract of the fast engine's, as the compiler has the two: whoever calls from C cannot tell them
-- apart. Change request M-105. Assumes nothing.
use Rattle.std.specs.Prelude.{◌≡◌, refl, []}
use Rattle.numbers.specs.Determines.{Contract}
use Rattle.numbers.specs.DeterminesLaws.{same_contract}
use Rattle.marks_c.specs.contracts.linkshoar_list_run_marked as list_run_marked
use Rattle.pencil_c.specs.Same.{exports_same}
use Rattle.pencil_c.specs.contracts.run.linkshoar_pencil_run as pencil_run
use Rattle.pencil_c.specs.contracts.marked.linkshoar_pencil_run_marked as pencil_run_marked
use Rattle.host.specs.contracts.linkshoar_list_run as list_run

-- the contracts of `linkshoar_list_run` and of `linkshoar_pencil_run`
abbrev pub fast : Contract list_run.signature
fast M 𝓤 = list_run.clauses {M = M} {𝓤 = 𝓤}

abbrev pub plain : Contract list_run.signature
plain M 𝓤 = pencil_run.clauses {M = M} {𝓤 = 𝓤}

pub pencil_run_alike : plain ≡ fast
pencil_run_alike = same_contract list_run.signature {c = plain} {d = fast} refl refl (λ κs a. (exports_same _ _ _ [] _).0)

-- those of `linkshoar_list_run_marked` and of `linkshoar_pencil_run_marked`
abbrev pub fast_marked : Contract list_run_marked.signature
fast_marked M 𝓤 = list_run_marked.clauses {M = M} {𝓤 = 𝓤}

abbrev pub plain_marked : Contract list_run_marked.signature
plain_marked M 𝓤 = pencil_run_marked.clauses {M = M} {𝓤 = 𝓤}

pub pencil_run_marked_alike : plain_marked ≡ fast_marked
pencil_run_marked_alike =
    same_contract list_run_marked.signature {c = plain_marked} {d = fast_marked} refl refl (λ κs a. (exports_same _ _ _ _ _).1)
