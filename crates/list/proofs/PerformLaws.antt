-- An accepted list performs every field: no step passes over one. Assumes nothing.
use Rattle.std.specs.Prelude.{◌≡◌, Bool, ℕ, ◌+◌}
use Rattle.std.proofs.Common.{sym, ap, ◌∙◌, ⊎_elim, arith, List, [], ◌∷◌}
use Rattle.std.proofs.Math.Path.{ap₂}
use mathlib.Core.List.Memᴰ
use mathlib.Core.List.{Memᴰ}
use Rattle.vram.specs.declared.Cycle.{Cycle}
use Rattle.vram.specs.Board.{Board, effect}
use Rattle.vram.specs.Refusal.{refusal}
use Rattle.vram.specs.Step.{given_of, rows_of, number, run_by, step, run}
use Rattle.vram.specs.StepLaws.{step_acts}
use Rattle.vram.proofs.KeptLaws.{step_loaded}
use Rattle.vram.proofs.RuleLaws.{step_given}
use Rattle.vram.proofs.CaseLaws.{run_none, run_next, step_rows, number_is}
use Rattle.list.specs.Fields.{Field, Reads, Unreadable, size_of, fields}
use Rattle.list.specs.Meaning.{number_of, made_by, verdict, cycles, cycles_of, verdict_of, run_call}
use Rattle.list.proofs.VerdictLaws.{accepted_head, accepted_tail}
use Rattle.list.proofs.CallLaws.{accepted_given, accepted_fields, call_runs}

-- fields of which none is refused on a board; what they leave behind is not asked
pub record Passes (at : ℕ) (fs : List Field) (b : Board) : Type 0 where
  pub given : given_of b ≡ 0
  pub none : (verdict (rows_of b) b.state.loaded at fs).number ≡ 0

-- the first acts, and the others pass on the board that it leaves
module _ (at : ℕ) (c : Cycle) (n : ℕ) (fs : List Field) (b : Board) (a : Passes at (Reads c n ∷ fs) b) where
  pub first_acts : number c b ≡ 0
  unfolding number_of
  first_acts = number_is c b a.given ∙ accepted_head (rows_of b) b.state.loaded at (Reads c n) fs a.none

  pub others_pass : Passes (at + size_of (Reads c n)) fs (step c b)
  unfolding made_by
  others_pass =
      record {
        given = step_given c b ∙ a.given;
        none =
            ap₂ (λ (k : ℕ) (made : Bool). (verdict k made (at + size_of (Reads c n)) fs).number) (step_rows c b) (step_loaded b c first_acts)
            ∙ accepted_tail (rows_of b) b.state.loaded at (Reads c n) fs a.none;
      }

-- a field that cannot be read passes nowhere
pub unreadable_refused : (at : ℕ) (fs : List Field) (b : Board) → Passes at (Unreadable ∷ fs) b → ⊥
unfolding number_of
unreadable_refused at fs b a = omega (arith, accepted_head (rows_of b) b.state.loaded at Unreadable fs a.none)

pub fields_perform : (at : ℕ) (fs : List Field) (b : Board) → Passes at fs b → run (cycles fs) b ≡ run_by effect (cycles fs) b
unfolding cycles
fields_perform at [] b a = run_none step b ∙ sym (run_none effect b)
fields_perform at (Reads c n ∷ fs) b a =
    run_next step c (cycles fs) b
    ∙ fields_perform (at + size_of (Reads c n)) fs (step c b) (others_pass at c n fs b a)
    ∙ ap (run_by effect (cycles fs)) (step_acts effect c b (first_acts at c n fs b a))
    ∙ sym (run_next effect c (cycles fs) b)
fields_perform at (Unreadable ∷ fs) b a = absurd (unreadable_refused at fs b a)

module _ (list : List ℕ) (b : Board) (h : (verdict_of list b).number ≡ 0) where
  pub list_passes : Passes 0 (fields list) b
  list_passes = record { given = accepted_given list b h; none = accepted_fields list b h }

  -- what an accepted list leaves is what each of its cycles does, in order
  pub call_performs : (run_call list b).after ≡ run_by effect (cycles_of list) b
  call_performs = call_runs list b h ∙ fields_perform 0 (fields list) b list_passes

-- ---- each cycle of an accepted list is one that is not refused, for the rows fitted and with a full transfer made or not

each_accepted : (rows : ℕ) (made : Bool) (at : ℕ) (fs : List Field) → (verdict rows made at fs).number ≡ 0
    → (c : Cycle) → Memᴰ c (cycles fs) → (m : Bool) × (refusal rows m c ≡ 0)
unfolding cycles number_of
each_accepted rows made at [] h c m = absurd (Memᴰ.not-nil m)
each_accepted rows made at (Reads d n ∷ fs) h c m =
    ⊎_elim (λ e. (made, ap (refusal rows made) e ∙ accepted_head rows made at (Reads d n) fs h))
    (each_accepted rows (made_by (Reads d n) made) (at + size_of (Reads d n)) fs (accepted_tail rows made at (Reads d n) fs h) c)
    (Memᴰ.cases_cons m)
each_accepted rows made at (Unreadable ∷ fs) h c m = absurd (omega (arith, accepted_head rows made at Unreadable fs h))

pub accepted_cycle : (list : List ℕ) (b : Board) → (verdict_of list b).number ≡ 0
    → (c : Cycle) → Memᴰ c (cycles_of list) → (made : Bool) × (refusal (rows_of b) made c ≡ 0)
accepted_cycle list b h = each_accepted (rows_of b) b.state.loaded 0 (fields list) (accepted_fields list b h)
