-- Words whose results are others, and the mark of a word after a list. Change request M-110. Assumes nothing.
use Rattle.std.specs.Prelude.{ℕ, suc, ◌+◌, ◌*◌, ◌%◌, List, [], ◌∷◌, get_or}
use Rattle.words.specs.Word.{high}
use Rattle.vram.specs.declared.Vram.{Vram}
use Rattle.vram.specs.Board.{Board, board}
use Rattle.marks_apart.specs.Ways.{Way, ran}

-- words with other results: each keeps its high byte, and the low byte of the word at place i is that of `results i`
unfoldable pub with_results : (ℕ → ℕ) → List ℕ → List ℕ
with_results results [] = []
with_results results (w ∷ l) = (256 * high w + results 0 % 256) ∷ with_results (λ i. results (suc i)) l

module _ (way : Way) (state : Vram) (memory serial : List ℕ) where
  -- the board with these results in the memory, and these in the serial register
  abbrev pub holding : (ℕ → ℕ) → (ℕ → ℕ) → Board
  holding results serial_results = board state (with_results results memory) (with_results serial_results serial)

  -- the mark of a word after the list
  abbrev pub mark_of : Board → ℕ → ℕ → ℕ
  mark_of b row column = high (get_or (ran way b).after.memory (512 * row + column) 0)
