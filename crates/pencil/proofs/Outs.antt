-- The ways out of the call with marks, by what the code has: those without are `list`'s, by any engine. Assumes nothing.
use Rattle.std.proofs.Common.{◌≡◌, sym, ap, ◌∙◌, List, ◌≢◌, ℕ}
use Rattle.vram.specs.Board.{Board}
use Rattle.vram.specs.Step.{given_of, rows_of}
use Rattle.list.specs.Meaning.{Bad}
use Rattle.list.specs.Meaning.{bad, Outcome}
use Rattle.list.proofs.OutLaws.{finished}
use Rattle.marks.specs.Calls.{gives, Noted, noted, mark_call}
use Rattle.marks.proofs.CallLaws.{run_first_by, run_marks_by}
use Rattle.pencil.specs.Pencil.{pencil}
use Rattle.pencil.specs.Calls.{marked_call}

-- n is what 1 to 3 say
module _ (list : List ℕ) (b : Board) (n : ℕ) (e : n ≡ given_of b) (marks : List ℕ) where
  pub given_marked : n ≢ 0 → gives (bad n 0) b marks ≡ marked_call list b marks
  given_marked h = ap (λ (x : ℕ). gives (bad x 0) b marks) e ∙ sym (run_first_by pencil list b marks (λ z. h (e ∙ z)))

  -- the check found v and left the marks so
  pub checked_marked : n ≡ 0 → (v : Bad) (left : List ℕ) → noted v left ≡ mark_call list (rows_of b) b.state.loaded marks
      → (o : Outcome) → o ≡ finished pencil list b v → gives o.given o.after left ≡ marked_call list b marks
  checked_marked z v left q o f =
      ap (λ (x : Outcome). gives x.given x.after left) f
      ∙ ap (λ (x : Noted). gives x.given (finished pencil list b x.given).after x.marks) q
      ∙ sym (run_marks_by pencil list b marks (sym e ∙ z))
