-- `vram::Vram::load_mask` meets its contract. Assumes nothing.
use Rattle.std.proofs.Common.{ℕ, true, ap, ◌∙◌, refl}
use Rattle.numbers.specs.RefuseLaws.{done_is}
use Rattle.words.specs.Word.{covers}
use Rattle.words.specs.WordLaws.{merged_by_mask}
use Rattle.vram.specs.State.{with_mask}
use Rattle.vram.specs.Calls.{answered}
use Rattle.vram.proofs.Arms.{own_decides}
use Rattle.vram.proofs.Vram.load_mask.Goals as goal

pub returns : goal.returns
returns c =
    let a = c.args in
    done_is answered 0 _ _ _ _ (own_decides 0 _ _ c.in_ok-given.ensures refl c.in_ok-load_refusal.ensures) refl
    (ap (λ (v : ℕ). with_mask a.self v true) (c.merge-mask.ensures ∙ merged_by_mask _ _ _ (covers a.strobes) c.strobe_mask.ensures))
