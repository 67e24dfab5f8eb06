-- `list::number_at` meets its contract. Assumes nothing.
use Rattle.std.proofs.Common.{sym, ap, ◌∙◌, ℕ, ◌*◌, arith}
use Rattle.list.proofs.SplitLaws.{word_past, word_last}
use Rattle.list.proofs.number_at.Goals as goal

pub returns-then-bytes-at : goal.returns-then-bytes-at
returns-then-bytes-at c = sym (word_past _ _ c.if-bytes-at.true)

pub returns-then-bytes-at-eq1 : goal.returns-then-bytes-at-eq1
returns-then-bytes-at-eq1 c = ap (λ (n : ℕ). n * 256) c.from.ensures ∙ sym (word_last _ _ (omega (arith, c.if-bytes-at-eq1.true)))
