-- `next` gives the least marked row from its start row on, and a link that goes from row to row by it visits every marked row once. Change
-- request M-104. Assumes nothing.
use Rattle.std.specs.Prelude.{◌≡◌, List, ℕ, ◌+◌, ◌-◌, ◌≤◌, ◌<◌, length}
use Rattle.std.proofs.Common.{sym, ap, ◌∙◌, subst, arith}
use Rattle.words.specs.Bit.{digit}
use Rattle.std.specs.Prelude.{Option}
use Rattle.marks.specs.Marks.{is_marked, first_marked, Least}
use Rattle.marks.proofs.NextLaws.{first_least, first_only}
use Rattle.marks.specs.Calls.{Marked, next_call}
use Rattle.marks.proofs.CallLaws.{next_finds}
use Rattle.marks.specs.Walk.{visited, marked_rows, how_often}
use Rattle.marks.proofs.WalkLaws.{visits_rows, outside, among}

module _ (marks : List ℕ) (h : length marks ≡ 64) where
  -- ---- one call

  module _ (start : ℕ) (m : start ≤ 511) where
    it_finds : (next_call marks start).found ≡ first_marked marks start (512 - start)
    it_finds = ap (λ (a : Marked). a.found) (next_finds marks start h m)

    to_512 : start + (512 - start) ≡ 512
    to_512 = omega arith

    -- what is found is the least marked row from the start on, or none where none is marked
    pub next_least : Least marks start 512 (next_call marks start).found
    next_least =
        subst (λ (end : ℕ). Least marks start end (next_call marks start).found) to_512
        (subst (Least marks start (start + (512 - start))) (sym it_finds) (first_least marks (512 - start) start))

    -- and the least marked row is found, and none where none is marked
    pub next_only : (f : Option ℕ) → Least marks start 512 f → (next_call marks start).found ≡ f
    next_only f l = it_finds ∙ first_only marks (512 - start) start f (subst (λ (end : ℕ). Least marks start end f) (sym to_512) l)

  -- ---- the whole walk, from row 0 on, with any number of calls that would do for every row

  module _ (k : ℕ) (l : 512 ≤ k) where
    -- the marked rows are visited in order
    pub walk_rows : visited marks k 0 ≡ marked_rows marks 0 512
    walk_rows = visits_rows marks h k 0 (omega arith) (omega arith)

    -- every marked row once, and no other row
    pub walk_once : (q : ℕ) → q ≤ 511 → how_often q (visited marks k 0) ≡ digit (is_marked marks q)
    walk_once q m = ap (how_often q) walk_rows ∙ among marks 512 0 q (omega arith) (omega arith)

    pub walk_within : (q : ℕ) → 511 < q → how_often q (visited marks k 0) ≡ 0
    walk_within q m = ap (how_often q) walk_rows ∙ outside marks 512 0 q (λ k n. omega arith)
