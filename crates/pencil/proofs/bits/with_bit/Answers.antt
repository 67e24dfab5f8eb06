-- `pencil::bits::with_bit` meets its contract. Assumes nothing.
use Rattle.std.proofs.Common.{sym, ap, ◌∙◌}
use Rattle.pencil.specs.Bits.{with_bit}
use Rattle.pencil.specs.CodeLaws.{set_law, clear_law}
use Rattle.pencil.proofs.bits.with_bit.Goals as goal

pub returns-then-set : goal.returns-then-set
returns-then-set c =
    let a = c.args in
    set_law a.word a.b c.ranges.word.fits ∙ ap (with_bit a.word a.b) (sym c.if-set.true)

pub returns-else-set : goal.returns-else-set
returns-else-set c =
    let a = c.args in
    clear_law a.word a.b c.ranges.word.fits ∙ ap (with_bit a.word a.b) (sym c.if-set.false)
