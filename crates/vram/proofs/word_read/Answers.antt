-- `vram::word_read` meets its contract. Assumes nothing.
use Rattle.std.proofs.Common.{◌≡◌, ℕ, length, get_or, refl, ap, ◌∙◌, rules}
use Rattle.numbers.specs.RefuseLaws.{done_is}
use Rattle.words.specs.Word.{merged, covers}
use Rattle.words.specs.WordLaws.{merged_by_mask}
use Rattle.vram.specs.Refusal.{word_read_refusal}
use Rattle.vram.specs.Calls.{word_read_call}
use Rattle.vram.proofs.Clocks.{worded}
use Rattle.vram.proofs.word_read.Goals as goal

pub returns : goal.returns
unfolding word_read_call word_read_refusal
returns c =
    let a = c.args in
    let e : 0 ≡ word_read_refusal (length a.memory.now) a.row a.column a.strobes = search rules in
    done_is worded 0 _ _ _ _ e refl
    (c.merge.ensures
    ∙ merged_by_mask _ _ _ (covers a.strobes) c.strobe_mask.ensures
    ∙ ap (λ (i : ℕ). merged 0 (get_or a.memory.now i 0) (covers a.strobes)) c.place-at.ensures)
