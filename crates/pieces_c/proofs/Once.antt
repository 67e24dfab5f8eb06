-- Each export's contract, as the compiler has it, requires nothing and determines the outcome. Assumes nothing.
use Rattle.std.proofs.Common.{refl}
use Rattle.numbers.specs.Determines.{Determines}
use Rattle.numbers.specs.DeterminesLaws.{by_result, by_outcome}
use Rattle.pieces_c.specs.contracts.linkshoar_pieces_fresh as pieces_fresh
use Rattle.pieces_c.specs.contracts.linkshoar_pieces_take as pieces_take
use Rattle.pieces_c.specs.contracts.linkshoar_pieces_end as Pieces-end

pub pieces_fresh_once : Determines pieces_fresh.signature (λ M 𝓤. pieces_fresh.clauses {M = M} {𝓤 = 𝓤})
pieces_fresh_once = by_result refl (λ κs a v w. refl)

pub pieces_take_once : Determines pieces_take.signature (λ M 𝓤. pieces_take.clauses {M = M} {𝓤 = 𝓤})
pieces_take_once = by_outcome refl (λ κs a o. (o.answer, (tt, (tt, (o.memory, (o.serial, (tt, tt))))))) (λ κs a x. refl)

pub pieces_end_once : Determines Pieces-end.signature (λ M 𝓤. Pieces-end.clauses {M = M} {𝓤 = 𝓤})
pieces_end_once = by_outcome refl (λ κs a o. (o.answer, (tt, (tt, (tt, (tt, tt)))))) (λ κs a x. refl)
