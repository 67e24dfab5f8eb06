-- `panel::pixels::two_parts` meets its contract. Assumes nothing.
use Rattle.std.proofs.Common.{◌≡◌, ap, ◌∙◌, ℕ, ◌+◌, ◌*◌, ◌/◌, ◌%◌, arith}
use Rattle.panel.specs.declared.Width.{Width}
use Rattle.panel.specs.Panel.{part_at}
use Rattle.panel.proofs.PartLaws.{at_six, at_eight}
use Rattle.panel.proofs.Two.{six_bits, top_two}
use Rattle.panel.proofs.pixels.two_parts.Goals as goal

pub returns-in-Six : goal.returns-in-Six
returns-in-Six c =
    let a = c.args in
    let part : (six : ℕ) → part_at a.width six ≡ six = λ six. ap (λ (w : Width). part_at w six) c.in-Six.is ∙ at_six six in
    omega (arith, c.two_kept-six.ensures, six_bits a.low, six_bits a.high, part (a.low % 64), part (a.high % 64))

pub returns-in-Eight : goal.returns-in-Eight
returns-in-Eight c =
    let a = c.args in
    let part : (six : ℕ) → part_at a.width six ≡ 4 * six + six / 16 = λ six. ap (λ (w : Width). part_at w six) c.in-Eight.is ∙ at_eight six in
    omega (arith, c.two_kept-six.ensures, six_bits a.low, six_bits a.high, c.two_kept.ensures, top_two a.low, top_two a.high, part (a.low % 64), part (a.high % 64))

pub overflow_mul-result : goal.overflow_mul-result
overflow_mul-result c =
    let a = c.args in
    omega (arith, c.two_kept-six.ensures, six_bits a.low, six_bits a.high)

pub overflow_add-result : goal.overflow_add-result
overflow_add-result c =
    let a = c.args in
    omega (arith, c.two_kept-six.ensures, six_bits a.low, six_bits a.high, c.two_kept.ensures, top_two a.low, top_two a.high)
