-- The panel link: it holds a copy of the memory as it was when the marks were cleared, and sends only the rows that it visits; then the copy
-- is the memory. Change request M-104. Assumes nothing.
use Rattle.std.specs.Prelude.{◌≡◌, refl, Bool, true, false, List, ◌≢◌, ℕ, ◌*◌, ◌≤◌, ◌<◌, length}
use Rattle.std.proofs.Common.{sym, ap, ◌∙◌, arith}
use Rattle.std.proofs.Math.Decide.{dec_le}
use Rattle.words.specs.Bit.{digit}
use Rattle.vram.specs.Writes.{row_of}
use Rattle.marks.specs.Marks.{is_marked}
use Rattle.marks.specs.Runs.{Run, since, memory_since, marks_since}
use Rattle.marks.proofs.RunLaws.{all_memory_length}
use Rattle.marks.proofs.Since.{since_length, unmarked_holds, marked_fitted}
use Rattle.marks.specs.Walk.{visited, how_often, sent_rows}
use Rattle.marks.proofs.Visits.{walk_once, walk_within}
use Rattle.marks.proofs.LinkLaws.{sent_whole}

-- a memory of n rows, marks cleared on it, any runs, and a walk with calls enough for every row
module _ (n : ℕ) (m : n ≤ 512) (memory : List ℕ) (l : length memory ≡ 512 * n) (marks : List ℕ) (e : length marks ≡ 64) (rs : List Run) (k : ℕ) (h : 512 ≤ k) where
  abbrev pub visited_since : List ℕ
  visited_since = visited (marks_since memory marks rs) k 0

  -- how often a row is visited says whether it is marked
  visits : (q : ℕ) → q ≤ 511 → how_often q visited_since ≡ digit (is_marked (marks_since memory marks rs) q)
  visits = walk_once (marks_since memory marks rs) (since_length memory marks e rs) k h

  -- only rows that are fitted are visited
  pub visited_fitted : (q : ℕ) → how_often q visited_since ≢ 0 → q < n
  visited_fitted q t = elim (dec_le q 511) [
    | yes y ↦ go y (is_marked (marks_since memory marks rs) q) refl
    | no y ↦ absurd (t (walk_within (marks_since memory marks rs) (since_length memory marks e rs) k h q (omega arith)))
  ]
    where
      go : q ≤ 511 → (u : Bool) → is_marked (marks_since memory marks rs) q ≡ u → q < n
      go y true f = omega (arith, marked_fitted memory marks e rs q y f, l)
      go y false f = absurd (t (visits q y ∙ ap digit f))

  -- a row that is not visited holds what it held
  pub unvisited_holds : (q : ℕ) → q ≤ 511 → how_often q visited_since ≡ 0 → row_of q memory ≡ row_of q (memory_since memory marks rs)
  unvisited_holds q y z = go (is_marked (marks_since memory marks rs) q) refl
    where
      go : (u : Bool) → is_marked (marks_since memory marks rs) q ≡ u → row_of q memory ≡ row_of q (memory_since memory marks rs)
      go true f = absurd (omega (arith, sym z ∙ visits q y ∙ ap digit f))
      go false f = sym (unmarked_holds memory marks e rs q y f)

  -- the copy, with the visited rows sent, is the memory
  pub link_whole : sent_rows (memory_since memory marks rs) visited_since memory ≡ memory_since memory marks rs
  link_whole =
      let s = all_memory_length rs (since memory marks) in
      sent_whole (memory_since memory marks rs) visited_since memory (sym s)
      (λ q t. omega (arith, visited_fitted q t, s))
      (λ q b z. unvisited_holds q (omega (arith, b, s)) z)
