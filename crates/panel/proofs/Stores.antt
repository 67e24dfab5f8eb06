-- Three stores are the colour that a word shows. Assumes nothing.
use Rattle.std.proofs.Common.{◌≡◌, List, ℕ, ◌+◌, ◌*◌, ◌%◌, get_or, set}
use Rattle.palette.specs.Table.{store}
use Rattle.panel.specs.Panel.{Panel, entry_of, colour_of}

pub three_stores : (p : Panel) (out : List ℕ) (word i at r g b : ℕ) → at ≡ 3 * entry_of p word → r ≡ p.part_of (get_or p.table at 0 % 64)
    → g ≡ p.part_of (get_or p.table (at + 1) 0 % 64) → b ≡ p.part_of (get_or p.table (at + 2) 0 % 64)
    → set (set (set out (3 * i) r) (3 * i + 1) g) (3 * i + 2) b ≡ store out i (colour_of p word)
unfolding colour_of
three_stores p out word i at r g b e f k l = rw (f, k, l, e)
