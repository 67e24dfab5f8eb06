-- Each public call's contract, as the compiler has it, requires nothing and determines the outcome; of a fill for C its first clause does.
-- Assumes nothing.
use Rattle.std.specs.Prelude.{◌≡◌, refl, false, cond, eqb, Result}
use Rattle.std.specs.Prelude.Result.{Ok, Err}
use Rattle.std.proofs.Common.{sym, ap, ◌∙◌, ne_eqb}
use Rattle.numbers.specs.Determines.{Determines}
use Rattle.numbers.specs.DeterminesLaws.{by_made, by_outcome, by_first}
use Rattle.numbers.specs.declared.Refusal.{Refusal}
use Rattle.numbers.specs.Refusal.{number_of}
use Rattle.numbers.specs.RefusalLaws.{number_not_zero, refusal_of, refusal_is}
use Rattle.planner.specs.declared.Counts.{Counts}
use Rattle.planner.specs.declared.Filled.{Filled}
use Rattle.planner.specs.Calls.{filled_by}
use Rattle.planner.specs.contracts.Fill.measure as measured
use Rattle.planner.specs.contracts.Fill.put as stored
use Rattle.planner.specs.contracts.linkshoar_fill as planned

-- an answer is known by what C is answered
abbrev answer_of : Filled → Result Counts Refusal
answer_of r = cond (eqb r.number 0) (Ok (record { bytes = r.bytes; cycles = r.cycles })) (Err (refusal_of r.number))

answer_is : (answer : Result Counts Refusal) → answer_of (filled_by answer) ≡ answer
answer_is (Ok counts) = refl
answer_is (Err refusal) =
    let e : eqb (number_of refusal) 0 ≡ false = ne_eqb (number_of refusal) 0 (number_not_zero refusal) in rw (e, refusal_is refusal) refl

pub measure_once : Determines measured.signature (λ M 𝓤. measured.clauses {M = M} {𝓤 = 𝓤})
measure_once = by_made refl (λ κs a r. answer_of r) (λ κs a r. answer_is r) (λ κs a v w. refl)

pub put_once : Determines stored.signature (λ M 𝓤. stored.clauses {M = M} {𝓤 = 𝓤})
put_once = by_outcome refl (λ κs a o. (answer_of o.answer, (tt, (o.buffer, tt)))) (λ κs a x. ap (λ r. (r, x.1)) (answer_is x.0))

pub fill_once : Determines planned.signature (λ M 𝓤. planned.clauses {M = M} {𝓤 = 𝓤})
fill_once =
    by_first refl (λ κs a x y p q. ap (λ o. (o.answer, (tt, (tt, (tt, (tt, (tt, (tt, (tt, (tt, (o.buffer, tt))))))))))) (p ∙ sym q))
