-- A link that goes from marked row to marked row by `next`: the rows that it visits, and what it sends. Assumes nothing.
use Rattle.std.specs.Prelude.{ℕ, zero, suc, ◌+◌, ◌*◌, cond, List, [], ◌∷◌, eqb}
use Rattle.words.specs.Bit.{digit}
use Rattle.vram.specs.Memory.{copied}
use Rattle.std.specs.Prelude.{Option}
use Rattle.std.specs.Prelude.Option.{None, Some}
use Rattle.marks.specs.Marks.{is_marked}
use Rattle.marks.specs.Calls.{next_call}

-- a row that is found is visited, and the search goes on from the row after it; where none is found the link is done
abbrev pub goes_on : Option ℕ → (ℕ → List ℕ) → List ℕ
goes_on None from = []
goes_on (Some r) from = r ∷ from (suc r)

-- the loop, by any search: k calls at most, the first from a start row
unfoldable pub visited_by : (ℕ → Option ℕ) → ℕ → ℕ → List ℕ
visited_by search zero start = []
visited_by search (suc k) start = goes_on (search start) (visited_by search k)

-- by `next`: after row 511 it asks for row 512, which is refused, and none is found
abbrev pub visited : List ℕ → ℕ → ℕ → List ℕ
visited marks = visited_by (λ start. (next_call marks start).found)

-- the marked ones of n rows from r on, in order
unfoldable pub marked_rows : List ℕ → ℕ → ℕ → List ℕ
marked_rows marks r zero = []
marked_rows marks r (suc n) = cond (is_marked marks r) (r ∷ marked_rows marks (suc r) n) (marked_rows marks (suc r) n)

-- how often a row stands in a list of rows
unfoldable pub how_often : ℕ → List ℕ → ℕ
how_often q [] = 0
how_often q (r ∷ rows) = digit (eqb r q) + how_often q rows

-- a copy of the memory, with some rows sent: each row's words are the memory's then
unfoldable pub sent_rows : List ℕ → List ℕ → List ℕ → List ℕ
sent_rows memory [] copy = copy
sent_rows memory (r ∷ rows) copy = sent_rows memory rows (copied memory (512 * r) copy (512 * r) 512)
