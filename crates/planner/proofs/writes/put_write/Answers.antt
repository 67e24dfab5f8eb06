-- `planner::writes::put_write` meets its contract. Assumes nothing.
use Rattle.std.proofs.Common.{ap, ◌∙◌, List, ℕ, ◌+◌}
use lib.Seq.{sets}
use Rattle.planner.specs.Bytes.{tag_bytes, rest_bytes}
use Rattle.planner.proofs.BytesLaws.{write_stored}
use Rattle.planner.proofs.writes.put_write.Goals as goal

pub returns : goal.returns
returns c =
    let a = c.args in
    c.put_rest.ensures
    ∙ ap (λ (l : List ℕ). sets l (a.at + 7) (rest_bytes a.value a.mask)) (c.put_tag.ensures ∙ ap (λ (l : List ℕ). sets l a.at (tag_bytes a.tag)) c.put_place.ensures)
    ∙ write_stored a.list.now a.at a.tag a.place a.value a.mask
