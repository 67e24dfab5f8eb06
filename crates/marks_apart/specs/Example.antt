-- Two boards as the request has them, with every low byte different, and what is shown of them, by computation. Assumes nothing.
use Rattle.std.specs.Prelude.{ℕ, zero, suc, ◌*◌, ◌/◌, ◌%◌, Bool, true, false, not, ◌&&◌, cond, List, [], ◌∷◌, ◌++◌, map, eqb, replicate}
use Rattle.words.specs.Word.{high}
use Rattle.vram.specs.State.{fresh}
use Rattle.vram.specs.Board.{Board, board}
use Rattle.palette.specs.State.{fresh as fresh_palette}
use Rattle.panel.specs.declared.Width.{Width}
use Rattle.panel.specs.Panel.{pixel_at}
use Rattle.panel.specs.Calls.{Outcome}
use Rattle.marks_apart.specs.Ways.{Which, whole}
use Rattle.marks_apart.specs.Apart.{shown, word_of}
use Rattle.marks_apart.specs.OneWord.{with_results}

-- ---- two boards of one row: marks 0 to 255, over and over; the results are 0 and up on the one, and one more each on the other

-- n numbers from one on
abbrev pub places_from : ℕ → ℕ → List ℕ
places_from at zero = []
places_from at (suc n) = at ∷ places_from (suc at) n

-- n words, the mark of each its place mod 256
abbrev pub marks : ℕ → List ℕ
marks n = map (λ place. 256 * (place % 256)) (places_from 0 n)

abbrev pub one : Board
one = board fresh (with_results (λ i. i) (marks 512)) (with_results (λ i. i) (marks 256))

abbrev pub other : Board
other = board fresh (with_results suc (marks 512)) (with_results suc (marks 256))

-- at every place the low bytes differ
abbrev pub all_differ : List ℕ → List ℕ → Bool
all_differ [] [] = true
all_differ [] (w ∷ m) = false
all_differ (v ∷ l) [] = false
all_differ (v ∷ l) (w ∷ m) = not (eqb (v % 256) (w % 256)) && all_differ l m

-- ---- a list and a run on both: a masked word write at column 3, a colour load, a block write at column 8, a full transfer with tap 248; then 20
-- clocks, which answer words 248 to 255 and 0 to 11

abbrev pub list : List ℕ
list =
    (1 ∷ 0 ∷ 10 ∷ 0 ∷ 0 ∷ 0 ∷ 3 ∷ 0xA5 ∷ 0xC3 ∷ 1 ∷ 0x0F ∷ 0xF0 ∷ 3 ∷ [])
    ++ (3 ∷ 0 ∷ 3 ∷ 0x12 ∷ 0x34 ∷ 3 ∷ [])
    ++ (2 ∷ 0 ∷ 10 ∷ 0 ∷ 0 ∷ 0 ∷ 8 ∷ 0x84 ∷ 0x21 ∷ 0 ∷ 0 ∷ 0 ∷ 3 ∷ [])
    ++ 6 ∷ 0 ∷ 4 ∷ 0 ∷ 0 ∷ 0 ∷ 248 ∷ []

-- a table of 256 colours, no two alike
abbrev pub colours_from : ℕ → ℕ → List ℕ
colours_from at zero = []
colours_from at (suc n) = at % 64 ∷ at / 64 ∷ 0 ∷ colours_from (suc at) n

abbrev pub showing : Which → Width → Board → Outcome
showing engine width b = shown (whole engine list) width fresh_palette (colours_from 0 256) 20 0 b (replicate 60 0)

-- the marks that the clocks answer
abbrev pub marks_shown : Which → Width → Board → List ℕ
marks_shown engine width b = map (λ i. high (word_of (whole engine list) width fresh_palette (colours_from 0 256) 20 0 b i)) (places_from 0 20)

abbrev pub alike : List ℕ → List ℕ → Bool
alike [] [] = true
alike [] (y ∷ m) = false
alike (x ∷ l) [] = false
alike (x ∷ l) (y ∷ m) = eqb x y && alike l m

-- the pixels that differ, of n from one on
abbrev pub differing : ℕ → ℕ → List ℕ → List ℕ → List ℕ
differing at zero x y = []
differing at (suc n) x y = cond (alike (pixel_at at x) (pixel_at at y)) (differing (suc at) n x y) (at ∷ differing (suc at) n x y)
