-- `pencil::block::keep_bit` meets its contract. Assumes nothing.
use Rattle.std.proofs.Common.{ap, ap₂, ◌∙◌, ◌&&◌}
use Rattle.pencil.specs.Bits.{with_bit}
use Rattle.pencil.proofs.block.keep_bit.Goals as goal

pub returns : goal.returns
returns c =
    let a = c.args in
    c.with_bit.ensures ∙ ap (with_bit a.mask a.b) (ap₂ ◌&&◌ c.let_through.ensures c.has.ensures)
