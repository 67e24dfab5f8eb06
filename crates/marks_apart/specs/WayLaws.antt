-- Every way to run a list gives the same answers on two boards that differ in low bytes alone, and leaves such boards. Assumes nothing.
use Rattle.std.specs.Prelude.{◌≡◌, refl, List, [], ◌∷◌, ◌++◌}
use Rattle.std.proofs.Common.{ap, ap₂}
use Rattle.vram.specs.Board.{Board}
use Rattle.vram.specs.High.{Twins, KeepsTwins}
use Rattle.vram.proofs.HighLaws.{effect_twins}
use Rattle.list.specs.Meaning.{Bad}
use Rattle.list.specs.HighLaws.{given_twins, after_twins}
use Rattle.marks.proofs.HighLaws.{given_twins as marked_given, marks_twins as marked_rows, after_twins as marked_after}
use Rattle.pencil.proofs.EngineLaws.{pencil_twins}
use Rattle.pieces.specs.Line.{fresh}
use Rattle.pieces.specs.Pieces.{pack}
use Rattle.pieces.specs.HighLaws.{answers_twins, ends_twins}
use Rattle.marks_apart.specs.Ways.{Which, fast, plain, engine_of, Way, whole, marked, pieces, Outcome, ran}

-- both engines keep twins
pub engine_twins : (engine : Which) → KeepsTwins (engine_of engine)
unfolding engine_of
engine_twins fast = effect_twins
engine_twins plain = pencil_twins

-- what two boards have in common after a list
pub record TwinOutcomes (o u : Outcome) : Type 0 where
  pub given : o.given ≡ u.given
  pub rows : o.rows ≡ u.rows
  pub after : Twins o.after u.after

pub way_twins : {a b : Board} → Twins a b → (way : Way) → TwinOutcomes (ran way a) (ran way b)
unfolding ran
way_twins t (whole engine list) =
    let e = engine_of engine in
    let keeps = engine_twins engine in
    record { given = ap (λ (v : Bad). v ∷ []) (given_twins list t e keeps); rows = refl; after = after_twins list t e keeps }
way_twins t (marked engine rows list) =
    let e = engine_of engine in
    let keeps = engine_twins engine in
    record {
      given = ap (λ (v : Bad). v ∷ []) (marked_given list rows t e keeps);
      rows = marked_rows list rows t e keeps;
      after = marked_after list rows t e keeps;
    }
way_twins t (pieces cutting) =
    let k = ends_twins cutting (pack fresh) t in
    record {
      given = ap₂ (λ (vs : List Bad) (v : Bad). vs ++ v ∷ []) (answers_twins cutting (pack fresh) t) k.given;
      rows = refl;
      after = k.after;
    }
