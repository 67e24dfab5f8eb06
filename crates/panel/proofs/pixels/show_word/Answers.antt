-- `panel::pixels::show_word` meets its contract. Assumes nothing.
use Rattle.std.proofs.Common.{mod-lt, arith, ℕ, ◌+◌, ◌%◌, ◌<◌, length-set, get_or}
use Rattle.panel.specs.Panel.{part_at, shows}
use Rattle.panel.proofs.PartLaws.{part_byte}
use Rattle.panel.proofs.Stores.{three_stores}
use Rattle.panel.proofs.Two.{two_back}
use Rattle.panel.proofs.pixels.show_word.Goals as goal

pub overflow_cast-out-2 : goal.overflow_cast-out-2
overflow_cast-out-2 c = omega arith

pub bounds-out-i-2 : goal.bounds-out-i-2
bounds-out-i-2 c = simp length-set (omega arith)

pub bounds-out-i-3 : goal.bounds-out-i-3
bounds-out-i-3 c = simp (length-set, length-set) (omega arith)

pub returns : goal.returns
returns c =
    let a = c.args in
    let at = c.place-at.result in
    let small : (k : ℕ) → part_at a.panel.width (get_or a.panel.table.now k 0 % 64) < 256 = λ k. part_byte a.panel.width (get_or a.panel.table.now k 0 % 64) (mod-lt (get_or a.panel.table.now k 0) (omega arith)) in
    let rg = two_back _ _ _ c.two_parts-red_green.ensures (small at) in
    let b = two_back _ _ _ c.two_parts-blue.ensures (small (at + 2)) in
    three_stores (shows a.panel) a.out.now a.word a.i at _ _ _ c.place-at.ensures.0 rg.0 rg.1 b.0
