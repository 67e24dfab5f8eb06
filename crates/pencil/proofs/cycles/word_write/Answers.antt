-- `pencil::cycles::word_write` meets its contract. Assumes nothing.
use Rattle.std.proofs.Common.{refl, sym, ap, ◌∙◌, ℕ, ◌+◌, ◌*◌, length}
use Rattle.refusals.specs.RefusalLaws.{write_zero, word_within}
use Rattle.vram.proofs.Arms.{own_decides, wrote}
use Rattle.pencil.specs.Memory.{word_written}
use Rattle.pencil.proofs.cycles.word_write.Goals as goal

pub write_word-requires : goal.write_word-requires
write_word-requires c =
    let a = c.args in
    word_within (length a.memory.now) a.row a.column (write_zero _ a.row a.column a.masking a.mask a.strobes (sym c.in_ok-write_refusal.ensures))

pub returns : goal.returns
returns c =
    let a = c.args in
    wrote (own_decides 0 _ _ c.in_ok-given.ensures refl c.in_ok-write_refusal.ensures)
    (c.write_word.ensures ∙ ap (λ (n : ℕ). word_written a.memory.now (512 * a.row + a.column) a.word n a.strobes) c.in_force.ensures)
