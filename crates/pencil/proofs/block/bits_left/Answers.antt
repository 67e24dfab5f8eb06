-- `pencil::block::bits_left` meets its contract: one turn of the loop is one bit. Assumes nothing.
use Rattle.std.proofs.Common.{◌≡◌, sym, ap, ◌∙◌, arith}
use Rattle.pencil.specs.Bits.{bit_by_bit, bits_left}
use Rattle.pencil.specs.BitLaws.{bits_start, bits_turn}
use Rattle.pencil.proofs.block.bits_left.Goals as goal

pub loop-b-init : goal.loop-b-init
loop-b-init c = sym (bits_start _ _)

pub loop-b-preserved : goal.loop-b-preserved
loop-b-preserved c =
    let l = c.loop-b in
    bits_turn _ _ l.left l.b _ l.invariant c.keep_bit-left.ensures

pub returns : goal.returns
unfolding bits_left
returns c =
    let l = c.loop-b in
    let e : l.b ≡ 16 = omega arith in
    l.invariant ∙ ap (bit_by_bit _ _) e
