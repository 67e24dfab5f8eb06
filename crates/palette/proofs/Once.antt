-- Each public call's contract, as the compiler has it, requires nothing and determines the outcome. Assumes nothing.
use Rattle.std.proofs.Common.{refl, ap}
use Rattle.numbers.specs.Determines.{Determines}
use Rattle.numbers.specs.DeterminesLaws.{by_result, by_outcome}
use Rattle.numbers.specs.RefusalLaws.{answer_of, answer_is}
use Rattle.palette.specs.contracts.Palette.fresh as fresh
use Rattle.palette.specs.contracts.Palette.ruled as ruled
use Rattle.palette.specs.contracts.Palette.write as write
use Rattle.palette.specs.contracts.Palette.read as read
use Rattle.palette.specs.contracts.Accessed.of as of
use Rattle.palette.specs.contracts.lent.linkshoar_palette_write_lent as write_lent
use Rattle.palette.specs.contracts.lent.linkshoar_palette_read_lent as read_lent

pub fresh_once : Determines fresh.signature (λ M 𝓤. fresh.clauses {M = M} {𝓤 = 𝓤})
fresh_once = by_result refl (λ κs a v w. refl)

pub ruled_once : Determines ruled.signature (λ M 𝓤. ruled.clauses {M = M} {𝓤 = 𝓤})
ruled_once = by_result refl (λ κs a v w. refl)

pub write_once : Determines write.signature (λ M 𝓤. write.clauses {M = M} {𝓤 = 𝓤})
write_once = by_outcome refl (λ κs a o. (answer_of o.answer.number (o.answer.state, o.answer.byte), (tt, (o.table, (tt, (tt, tt)))))) (λ κs a x. ap (λ r. (r, x.1)) (answer_is (a.0, 0) x.0))

pub read_once : Determines read.signature (λ M 𝓤. read.clauses {M = M} {𝓤 = 𝓤})
read_once = by_outcome refl (λ κs a o. (answer_of o.number (o.state, o.byte), (tt, (tt, (tt, tt))))) (λ κs a x. ap (λ r. (r, x.1)) (answer_is (a.0, 0) x.0))

-- ---- what C gets of an answer

pub of_once : Determines of.signature (λ M 𝓤. of.clauses {M = M} {𝓤 = 𝓤})
of_once = by_result refl (λ κs a v w. refl)

-- ---- with the state lent

pub write_lent_once : Determines write_lent.signature (λ M 𝓤. write_lent.clauses {M = M} {𝓤 = 𝓤})
write_lent_once = by_outcome refl (λ κs a o. (o.answer.number, (o.answer.state, (o.table, (tt, (tt, tt)))))) (λ κs a x. refl)

pub read_lent_once : Determines read_lent.signature (λ M 𝓤. read_lent.clauses {M = M} {𝓤 = 𝓤})
read_lent_once = by_outcome refl (λ κs a o. (record { number = o.number; byte = o.byte }, (o.state, (tt, (tt, tt))))) (λ κs a x. refl)
