-- `vram::Vram::split_transfer` meets its contract: what is copied lies in the memory and in the register. Assumes nothing.
use Rattle.std.proofs.Common.{length, sym, arith}
use Rattle.refusals.specs.RefusalLaws.{split_zero, transfer_within}
use Rattle.vram.specs.RefusalLaws.{given_zero}
use Rattle.vram.proofs.Vram.split_transfer.Goals as goal

pub copy-requires : goal.copy-requires
copy-requires c =
    let a = c.args in
    let z = split_zero _ a.self.loaded a.row a.half a.tap (sym c.in_ok-split_refusal.ensures) in
    let w = transfer_within (length a.memory.now) a.row a.half c.other_half-first.result 128 z.row_fitted z.half_within (omega (arith, c.other_half-first.ensures.1)) in
    let g = given_zero _ _ _ (sym c.in_ok-given.ensures) in
    (omega (arith, c.place.ensures, w), omega (arith, g.register, c.other_half-first.ensures.1))

pub overflow_add-result : goal.overflow_add-result
overflow_add-result c =
    let a = c.args in
    let z = split_zero _ a.self.loaded a.row a.half a.tap (sym c.in_ok-split_refusal.ensures) in
    omega (arith, z.tap_within, c.other_half-first.ensures.1)
