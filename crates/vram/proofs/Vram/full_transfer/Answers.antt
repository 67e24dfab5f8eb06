-- `vram::Vram::full_transfer` meets its contract: what is copied lies in the memory and in the register. Assumes nothing.
use Rattle.std.proofs.Common.{length, sym, arith}
use Rattle.refusals.specs.RefusalLaws.{full_zero, transfer_within}
use Rattle.vram.specs.RefusalLaws.{given_zero}
use Rattle.vram.proofs.Vram.full_transfer.Goals as goal

pub copy-requires : goal.copy-requires
copy-requires c =
    let a = c.args in
    let z = full_zero _ a.row a.half (sym c.in_ok-full_refusal.ensures) in
    let w = transfer_within (length a.memory.now) a.row a.half 0 256 z.0 z.1 (omega arith) in
    let g = given_zero _ _ _ (sym c.in_ok-given.ensures) in
    (omega (arith, c.place-from.ensures, w), omega (arith, g.register))
