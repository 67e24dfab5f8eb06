-- Each public call's contract, as the compiler has it, requires nothing and determines the outcome. Assumes nothing.
use Rattle.std.proofs.Common.{refl, ap}
use Rattle.numbers.specs.Determines.{Determines}
use Rattle.numbers.specs.DeterminesLaws.{by_result, by_outcome}
use Rattle.list.proofs.VerdictAnswer.{verdict_answer, verdict_is}
use Rattle.pieces.specs.contracts.fresh as fresh
use Rattle.pieces.specs.contracts.take as take
use Rattle.pieces.specs.contracts.end as end

pub fresh_once : Determines fresh.signature (λ M 𝓤. fresh.clauses {M = M} {𝓤 = 𝓤})
fresh_once = by_result refl (λ κs a v w. refl)

pub take_once : Determines take.signature (λ M 𝓤. take.clauses {M = M} {𝓤 = 𝓤})
take_once =
    by_outcome refl
    (λ κs a o. (
      record { state = o.after.state; pieces = o.pieces; answer = verdict_answer o.given tt },
      (tt, (tt, (o.after.memory, (o.after.serial, (tt, tt))))),
    ))
    (λ κs a x. ap (λ r. (record { state = x.0.state; pieces = x.0.pieces; answer = r }, x.1)) (verdict_is tt x.0.answer))

pub end_once : Determines end.signature (λ M 𝓤. end.clauses {M = M} {𝓤 = 𝓤})
end_once =
    by_outcome refl
    (λ κs a o. (record { state = o.after.state; pieces = o.pieces; answer = verdict_answer o.given tt }, (tt, (tt, (tt, (tt, tt))))))
    (λ κs a x. ap (λ r. (record { state = x.0.state; pieces = x.0.pieces; answer = r }, x.1)) (verdict_is tt x.0.answer))
