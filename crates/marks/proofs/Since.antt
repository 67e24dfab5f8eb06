-- Over any number of marked runs since the marks were cleared, accepted and refused, each on the memory and the marks that the one before
-- left: which rows are marked, and what the others hold. Change request M-104. Assumes nothing.
use Rattle.std.specs.Prelude.{◌≡◌, Bool, true, false, ◌||◌, List, ℕ, ◌/◌, ◌≤◌, ◌<◌, length}
use Rattle.std.proofs.Common.{sym, ap, ◌∙◌, arith}
use Rattle.vram.specs.Writes.{row_of}
use Rattle.marks.specs.Marks.{is_marked, no_marks, named_in}
use Rattle.marks.proofs.MarkLaws.{all_length, none_marked}
use Rattle.marks.specs.Calls.{clear_call}
use Rattle.marks.proofs.CallLaws.{clear_clears}
use Rattle.marks.specs.Runs.{Run, since, ran_since, memory_since, marks_since}
use Rattle.marks.proofs.RunLaws.{all_marked, runs_mark, runs_row, runs_fitted}

module _ (memory marks : List ℕ) (e : length marks ≡ 64) (rs : List Run) where
  clean : (clear_call marks).marks ≡ no_marks
  clean = ap (λ c. c.marks) (clear_clears marks e)

  pub since_length : length (marks_since memory marks rs) ≡ 64
  since_length =
      ap length (all_marked rs (since memory marks)) ∙ all_length (ran_since memory marks rs) (clear_call marks).marks ∙ ap length clean

  -- a row is marked exactly where a word or block write that names it has run since
  pub marked_since : (q : ℕ) → q ≤ 511 → is_marked (marks_since memory marks rs) q ≡ named_in q (ran_since memory marks rs)
  marked_since q h =
      runs_mark rs (since memory marks) q (rw clean (omega arith))
      ∙ ap (λ (t : Bool). t || named_in q (ran_since memory marks rs)) (ap (λ (m : List ℕ). is_marked m q) clean ∙ none_marked q h)

  -- a row that is not marked holds the words that it held at the clearing, all 512 of them
  pub unmarked_holds : (q : ℕ) → q ≤ 511 → is_marked (marks_since memory marks rs) q ≡ false → row_of q (memory_since memory marks rs) ≡ row_of q memory
  unmarked_holds q h u = runs_row rs (since memory marks) q (sym (marked_since q h) ∙ u)

  -- and only rows that are fitted are marked
  pub marked_fitted : (q : ℕ) → q ≤ 511 → is_marked (marks_since memory marks rs) q ≡ true → q < length memory / 512
  marked_fitted q h u = runs_fitted rs (since memory marks) q (sym (marked_since q h) ∙ u)
