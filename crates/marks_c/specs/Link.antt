-- What a link in C relies on: over any calls of `linkshoar_list_run_marked` since `linkshoar_marks_clear`, accepted and refused, on any states.
-- Change request M-104. Assumes nothing.
use Rattle.std.specs.Prelude.{◌≡◌, false, List, ℕ, ◌*◌, ◌≤◌, length}
use Rattle.std.proofs.Common.{sym, ap, ◌∙◌}
use Rattle.vram.specs.Writes.{row_of}
use Rattle.marks.specs.Marks.{is_marked, named_in}
use Rattle.marks.specs.Runs.{Drawn, since, ran_since, memory_since, marks_since}
use Rattle.marks.proofs.Since.{marked_since, unmarked_holds}
use Rattle.marks.specs.Walk.{sent_rows}
use Rattle.marks.proofs.Link.{link_whole}
use Rattle.marks_c.specs.Runs.{Run, after_all, runs_of, visited}
use Rattle.marks_c.specs.RunLaws.{runs_below, walk_below}

module _ (memory marks : List ℕ) (e : length marks ≡ 64) (rs : List Run) where
  -- memory and marks after the calls
  abbrev pub now : Drawn
  now = after_all rs (since memory marks)

  memory_below : now.memory ≡ memory_since memory marks (runs_of rs)
  memory_below = ap (λ (d : Drawn). d.memory) (runs_below rs (since memory marks))

  marks_below : now.marks ≡ marks_since memory marks (runs_of rs)
  marks_below = ap (λ (d : Drawn). d.marks) (runs_below rs (since memory marks))

  -- a row is marked exactly where a word or block write that names it has run since
  pub calls_mark : (q : ℕ) → q ≤ 511 → is_marked now.marks q ≡ named_in q (ran_since memory marks (runs_of rs))
  calls_mark q h = ap (λ (m : List ℕ). is_marked m q) marks_below ∙ marked_since memory marks e (runs_of rs) q h

  -- a row that is not marked holds the words that it held at the clearing
  pub calls_hold : (q : ℕ) → q ≤ 511 → is_marked now.marks q ≡ false → row_of q now.memory ≡ row_of q memory
  calls_hold q h u =
      ap (row_of q) memory_below ∙ unmarked_holds memory marks e (runs_of rs) q h (ap (λ (m : List ℕ). is_marked m q) (sym marks_below) ∙ u)

  -- a copy from the clearing, with the rows that the link visits copied over it, is the memory
  pub calls_link : (n : ℕ) → n ≤ 512 → length memory ≡ 512 * n → (k : ℕ) → 512 ≤ k → sent_rows now.memory (visited now.marks k 0) memory ≡ now.memory
  calls_link n m l k h =
      ap (λ (d : Drawn). sent_rows d.memory (visited d.marks k 0) memory) (runs_below rs (since memory marks))
      ∙ ap (λ (rows : List ℕ). sent_rows (memory_since memory marks (runs_of rs)) rows memory) (walk_below (marks_since memory marks (runs_of rs)) k 0)
      ∙ link_whole n m memory l marks e (runs_of rs) k h
      ∙ sym memory_below
