-- A list in pieces whose writes reach no high byte leaves every one, whether it is refused at some field or not. Assumes nothing.
use Rattle.std.specs.Prelude.{◌≡◌, refl, Bool, true, false, cond, ℕ, ◌≤◌, eqb, length}
use Rattle.std.proofs.Common.{List, [], ◌∷◌}
use mathlib.Core.List.{flatten}
use Rattle.std.proofs.Math.Decide.{ℕ_discrete}
use Rattle.vram.specs.Memory.{Words}
use Rattle.vram.specs.Board.{Board}
use Rattle.vram.specs.Step.{given_of, rows_of, step}
use Rattle.vram.specs.High.{Agree, spares, all_spare}
use Rattle.vram.proofs.SpareLaws.{spare_none, spare_next, spare_first, spare_others, run_spares}
use Rattle.list.specs.Fields.{Field, Reads, Unreadable, fields}
use Rattle.list.proofs.VerdictLaws.{cycles_reads, cycles_none, number_unreadable}
use Rattle.list.specs.Meaning.{number_of, made_by, cycles, cycles_of}
use Rattle.pieces.specs.Line.{limit}
use Rattle.pieces.specs.Meant.{passing}
use Rattle.pieces.specs.Cutting.{cut_call}
use Rattle.pieces.proofs.Cuts.{cut_passing, cut_nothing}

-- of those before the first that is refused
passing_spare : (rows : ℕ) (made : Bool) (fs : List Field) (b : Board) → all_spare (cycles fs) b ≡ true → all_spare (cycles (passing rows made fs)) b ≡ true
unfolding passing
passing_spare rows made [] b h = h
passing_spare rows made (Reads c n ∷ fs) b h =
    let k : all_spare (c ∷ cycles fs) b ≡ true = rw (cycles_reads c n fs) at h in
    go (eqb (number_of rows made (Reads c n)) 0) (spare_first c (cycles fs) b k)
    (passing_spare rows (made_by (Reads c n) made) fs (step c b) (spare_others c (cycles fs) b k))
  where
    others : List Field
    others = passing rows (made_by (Reads c n) made) fs

    go : (t : Bool) → spares c b.state ≡ true → all_spare (cycles others) (step c b) ≡ true → all_spare (cycles (cond t (Reads c n ∷ others) [])) b ≡ true
    go true f g = rw (cycles_reads c n others) (spare_next c (cycles others) b f g)
    go false f g = rw cycles_none (spare_none b)
passing_spare rows made (Unreadable ∷ fs) b h = rw (number_unreadable rows made, cycles_none) (spare_none b)

pub cut_spares : (list : List ℕ) → length list ≤ limit → (ss : List (List ℕ)) → flatten ss ≡ list → (b : Board) → Words b.memory → all_spare (cycles_of list) b ≡ true
    → Agree (cut_call ss b).after.memory b.memory
cut_spares list fits ss cut b k h = elim (ℕ_discrete (given_of b) 0) [
  | yes g ↦ rw (cut_passing list fits ss cut b g)
      (run_spares (cycles (passing (rows_of b) b.state.loaded (fields list))) b k (passing_spare (rows_of b) b.state.loaded (fields list) b h))
  | no n ↦ rw (cut_nothing list ss cut b n) (record { same = refl })
]
