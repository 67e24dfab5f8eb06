-- Drawing results leaves every mark: a list whose writes reach no high byte leaves all of them as they were, whatever results it draws. This
-- is what version one broke (`Faults`); the statement of change request M-110 alone does not say it. Assumes nothing.
use Rattle.std.specs.Prelude.{ℕ, ◌≤◌, ◌<◌, ◌≡◌, refl, true, length, get_or}
use Rattle.std.proofs.Common.{ap, ◌∙◌, List}
use mathlib.Core.List.{flatten}
use Rattle.std.proofs.Math.Decide.{ℕ_discrete}
use Rattle.words.specs.Bit.{bit}
use Rattle.words.specs.BitLaws.{bit_above}
use Rattle.words.specs.Word.{high}
use Rattle.words.specs.WordLaws.{low_kept}
use Rattle.vram.specs.declared.Cycle.{Cycle}
use Rattle.vram.specs.Memory.{Words}
use Rattle.vram.specs.Board.{Board, effect}
use Rattle.vram.specs.High.{Agree, all_spare}
use Rattle.vram.proofs.HighLaws.{agree_from}
use Rattle.vram.proofs.SpareLaws.{run_spares}
use Rattle.list.specs.Meaning.{cycles_of, verdict_of, run_call}
use Rattle.list.proofs.CallLaws.{call_runs, call_refuses, calls_same}
use Rattle.marks.specs.Calls.{verdict_of as marked_verdict, run_call as marked_call}
use Rattle.marks.proofs.CallLaws.{run_runs_by, run_refuses_by, marked_same}
use Rattle.planner.specs.Fill.{Fill, inside}
use Rattle.planner.specs.Calls.{fill_call}
use Rattle.planner.specs.Paint.{painted, list_in, Wide, Start}
use Rattle.planner.proofs.PaintLaws.{drawn_at, painted_length}
use Rattle.planner.proofs.ItPaints.{it_paints}
use Rattle.pencil.proofs.EngineLaws.{pencil_effect}
use Rattle.pieces.specs.Line.{limit}
use Rattle.pieces.proofs.SpareLaws.{cut_spares}
use Rattle.marks_apart.specs.Ways.{Which, fast, plain, engine_of, Way, whole, marked, pieces, ran}

-- ---- the bytes of a list, whichever way it is run

abbrev pub list_of : Way → List ℕ
list_of (whole engine list) = list
list_of (marked engine rows list) = list
list_of (pieces cutting) = flatten cutting

-- in pieces it has at most 4,294,967,295 of them
abbrev pub Fits : Way → Type 0
Fits (whole engine list) = Unit
Fits (marked engine rows list) = Unit
Fits (pieces cutting) = length (flatten cutting) ≤ limit

-- ---- on the engine of the rules

module _ (b : Board) (k : Words b.memory) (list : List ℕ) (h : all_spare (cycles_of list) b ≡ true) where
  list_spares : Agree (run_call list b).after.memory b.memory
  list_spares = elim (ℕ_discrete (verdict_of list b).number 0) [
    | yes z ↦ rw (call_runs list b z) (run_spares (cycles_of list) b k h)
    | no n ↦ rw (call_refuses list b n) (record { same = refl })
  ]

  marked_spares : (rows : List ℕ) → Agree (marked_call list b rows).after.memory b.memory
  marked_spares rows = elim (ℕ_discrete (marked_verdict list b (length rows)).number 0) [
    | yes z ↦ rw (run_runs_by effect list b rows z) (run_spares (cycles_of list) b k h)
    | no n ↦ rw (run_refuses_by effect list b rows n) (record { same = refl })
  ]

-- each engine does what that one does
engine_effect : (engine : Which) (c : Cycle) (b : Board) → engine_of engine c b ≡ effect c b
unfolding engine_of
engine_effect fast c b = refl
engine_effect plain c b = pencil_effect c b

-- ---- a list run in any way, accepted or refused, on a memory of words of 16 bits: where each write's strobes leave the high byte out, or the
-- mask in force has no bit of it (`all_spare`), every high byte is afterwards what it was

pub results_leave_marks : (way : Way) → Fits way → (b : Board) → Words b.memory → all_spare (cycles_of (list_of way)) b ≡ true
    → Agree (ran way b).after.memory b.memory
unfolding ran
results_leave_marks (whole engine list) l b k h = rw (calls_same (engine_effect engine) list b) (list_spares b k list h)
results_leave_marks (marked engine rows list) l b k h = rw (marked_same (engine_effect engine) list b rows) (marked_spares b k list h rows)
results_leave_marks (pieces cutting) l b k h = cut_spares (flatten cutting) l cutting refl b k h

-- ---- and a fill through a mask below 0100, the planner's way to paint a result, leaves every mark

painted_agrees : (f : Fill) → f.mask < 256 → (m : List ℕ) → Words m → Agree (painted f m) m
painted_agrees f l m k = agree_from (painted_length f m)
    (λ a h. ap high (drawn_at f (inside f) m a (rw (painted_length f m) at h))
    ∙ low_kept (inside f a) (get_or m a 0) f.colour (bit f.mask) (k a) (λ b. bit_above 8 f.mask b l))

pub fill_leaves_marks : (engine : Which) (f : Fill) (out : List ℕ) → Wide f → (fill_call f out).answer.number ≡ 0 → f.mask < 256
    → (b : Board) → Start f.rows b → Agree (ran (whole engine (list_in (fill_call f out))) b).after.memory b.memory
unfolding ran
fill_leaves_marks engine f out wide z l b start =
    rw (calls_same (engine_effect engine) (list_in (fill_call f out)) b, it_paints f out wide z b start)
    (painted_agrees f l b.memory start.memory.words)
