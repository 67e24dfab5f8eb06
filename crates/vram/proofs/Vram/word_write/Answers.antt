-- `vram::Vram::word_write` meets its contract. Assumes nothing.
use Rattle.std.proofs.Common.{ℕ, length, sym, ap, ◌∙◌, refl, arith}
use Rattle.words.specs.Bit.{bit}
use Rattle.vram.specs.Memory.{put}
use Rattle.vram.specs.Board.{allowed}
use Rattle.refusals.specs.RefusalLaws.{write_zero, word_within}
use Rattle.vram.proofs.Arms.{own_decides, wrote}
use Rattle.vram.proofs.Masks.{put_by_mask}
use Rattle.vram.proofs.Vram.word_write.Goals as goal

pub write_word-requires : goal.write_word-requires
write_word-requires c =
    let a = c.args in
    let z = write_zero _ a.row a.column a.masking a.mask a.strobes (sym c.in_ok-write_refusal.ensures) in
    omega (arith, c.place-at.ensures, word_within (length a.memory.now) a.row a.column z)

pub returns : goal.returns
returns c =
    let a = c.args in
    wrote (own_decides 0 _ _ c.in_ok-given.ensures refl c.in_ok-write_refusal.ensures)
    (c.write_word.ensures
    ∙ ap (λ (i : ℕ). put a.memory.now i a.word (bit c.allowed.result)) c.place-at.ensures
    ∙ put_by_mask _ _ _ _ (allowed a.self a.masking a.mask a.strobes) c.allowed.ensures)
