-- Each export's contract, as the compiler has it, is that of the call below, which requires nothing and determines the outcome. Assumes nothing.
use Rattle.numbers.specs.Determines.{Determines}
use Rattle.pieces_c.proofs.Once.{pieces_fresh_once as pieces_c_pieces_fresh_once, pieces_take_once as pieces_c_pieces_take_once, pieces_end_once as pieces_c_pieces_end_once}
use Rattle.pieces_archive.specs.contracts.linkshoar_pieces_fresh as pieces_fresh
use Rattle.pieces_archive.specs.contracts.linkshoar_pieces_take as pieces_take
use Rattle.pieces_archive.specs.contracts.linkshoar_pieces_end as pieces_end

pub pieces_fresh_once : Determines pieces_fresh.signature (λ M 𝓤. pieces_fresh.clauses {M = M} {𝓤 = 𝓤})
pieces_fresh_once = pieces_c_pieces_fresh_once

pub pieces_take_once : Determines pieces_take.signature (λ M 𝓤. pieces_take.clauses {M = M} {𝓤 = 𝓤})
pieces_take_once = pieces_c_pieces_take_once

pub pieces_end_once : Determines pieces_end.signature (λ M 𝓤. pieces_end.clauses {M = M} {𝓤 = 𝓤})
pieces_end_once = pieces_c_pieces_end_once
