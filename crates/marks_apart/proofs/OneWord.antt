-- The sentence that the chief technologist asked for, on one word: after any list, the high byte of a word is the same whatever the results
-- below were. It follows from `marks_apart`. Change request M-110. Assumes nothing.
use Rattle.std.specs.Prelude.{ℕ, suc, ◌+◌, ◌*◌, ◌≡◌, refl, List, [], ◌∷◌, map}
use Rattle.std.proofs.Common.{sym, ap₂, ◌∙◌, arith}
use Rattle.words.specs.Word.{high}
use Rattle.words.specs.WordLaws.{high_is}
use Rattle.vram.specs.declared.Vram.{Vram}
use Rattle.vram.specs.High.{Agree, Twins}
use Rattle.vram.proofs.HighLaws.{agree_at}
use Rattle.palette.specs.State.{fresh}
use Rattle.panel.specs.declared.Width.TheVariants.{Eight}
use Rattle.marks_apart.specs.Ways.{Way, ran}
use Rattle.marks_apart.specs.Apart.{Unaltered}
use Rattle.marks_apart.proofs.Apart.{marks_apart}
use Rattle.marks_apart.specs.OneWord.{with_results, holding, mark_of}

results_high : (results : ℕ → ℕ) (l : List ℕ) → map high (with_results results l) ≡ map high l
unfolding with_results
results_high results [] = refl
results_high results (w ∷ l) = ap₂ (λ (x : ℕ) (t : List ℕ). x ∷ t) (high_is _ ∙ (omega arith)) (results_high (λ i. results (suc i)) l)

pub results_agree : (f g : ℕ → ℕ) (l : List ℕ) → Agree (with_results f l) (with_results g l)
results_agree f g l = record { same = results_high f l ∙ sym (results_high g l) }

module _ (way : Way) (state : Vram) (memory serial : List ℕ) where
  module _ (f g f' g' : ℕ → ℕ) where
    both : Twins (holding way state memory serial f g) (holding way state memory serial f' g')
    both = record { state = refl; memory = results_agree f f' memory; serial = results_agree g g' serial }

    -- with any run after the list, one of no clocks say
    unaltered : Unaltered way Eight fresh [] 0 0 (holding way state memory serial f g) (holding way state memory serial f' g') [] []
    unaltered = marks_apart way Eight fresh [] 0 0 (holding way state memory serial f g) (holding way state memory serial f' g') both [] [] refl

    -- of every word, on every board, after a list that is accepted or not
    pub mark_of_a_word : (row column : ℕ) → mark_of way state memory serial (holding way state memory serial f g) row column ≡ mark_of way state memory serial (holding way state memory serial f' g') row column
    mark_of_a_word row column = agree_at unaltered.boards.memory (512 * row + column)

    -- and whether it is accepted does not depend on the results either
    pub accepted_alike : (ran way (holding way state memory serial f g)).given ≡ (ran way (holding way state memory serial f' g')).given
    accepted_alike = unaltered.given
