-- `pencil::word::write_bit` meets its contract. Assumes nothing.
use Rattle.std.proofs.Common.{◌≡◌, sym, ap, ap₂, ◌∙◌, Bool, true, false, ◌&&◌, cond}
use Rattle.words.specs.Bit.{bit}
use Rattle.words.specs.Word.{covers}
use Rattle.pencil.specs.Bits.{with_bit}
use Rattle.pencil.specs.BitLaws.{with_same}
use Rattle.pencil.proofs.word.write_bit.Goals as goal

-- strobes and mask allow the bit
pub returns-then-strobed-has : goal.returns-then-strobed-has
returns-then-strobed-has c =
    let a = c.args in
    let e : (covers a.strobes a.b && bit a.mask a.b) ≡ true = sym (ap₂ ◌&&◌ c.strobed.ensures c.has.ensures) ∙ c.if-strobed-has.true in
    c.with_bit.ensures
    ∙ ap (with_bit a.old a.b) (c.has-then-strobed-has.ensures ∙ ap (λ (u : Bool). cond u (bit a.new a.b) (bit a.old a.b)) (sym e))

-- they do not, and it stays
pub returns : goal.returns
returns c =
    let a = c.args in
    let e : (covers a.strobes a.b && bit a.mask a.b) ≡ false = sym (ap₂ ◌&&◌ c.strobed.ensures c.has.ensures) ∙ c.if-strobed-has.false in
    with_same a.old a.b c.ranges.old.fits
    ∙ ap (with_bit a.old a.b) (ap (λ (u : Bool). cond u (bit a.new a.b) (bit a.old a.b)) (sym e))
