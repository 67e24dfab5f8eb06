-- Laws of the call: what it gives back, step by step, and what it leaves. Assumes nothing.
use Rattle.std.specs.Prelude.{◌≡◌, Bool, true, List, [], ◌∷◌, ◌≢◌, ℕ, ◌+◌}
use Rattle.std.proofs.Math.Path.{refl, ap, ap₂}
use Rattle.std.proofs.Common.{sym, ◌∙◌, arith}
use Rattle.numbers.specs.Refuse.{leaves}
use Rattle.numbers.specs.RefuseLaws.{leaves_made, leaves_before}
use Rattle.vram.specs.declared.Cycle.{Cycle}
use Rattle.vram.specs.Board.{Board, effect}
use Rattle.vram.specs.Step.{given_of, rows_of, Engine, step_by, run_by, run}
use Rattle.vram.specs.StepLaws.{steps_same, runs_same}
use Rattle.list.specs.Meaning.{Bad}
use Rattle.std.specs.Prelude.{Option}
use Rattle.std.specs.Prelude.Option.{None}
use Rattle.list.specs.Fields.{Field, Reads, Unreadable, size_of, fields}
use Rattle.list.specs.Open.{open_after, open_of}
use Rattle.list.specs.Meaning.{number_of, made_by, bad, verdict, readable, cycles_of, left_behind, judged, verdict_of, gives, run_call_by, run_call}
use Rattle.list.proofs.VerdictLaws.{accepted_head, accepted_tail}
use Rattle.list.proofs.JudgeLaws.{bad_first, bad_later, bad_zero, left_none, left_zero, judged_refused, judged_passed}

-- ---- accepted fields can be read

pub accepted_readable : (rows : ℕ) (made : Bool) (at : ℕ) (fs : List Field) → (verdict rows made at fs).number ≡ 0 → readable fs ≡ true
unfolding readable number_of
accepted_readable rows made at [] h = refl
accepted_readable rows made at (Reads c n ∷ fs) h =
    accepted_readable rows (made_by (Reads c n) made) (at + size_of (Reads c n)) fs (accepted_tail rows made at (Reads c n) fs h)
accepted_readable rows made at (Unreadable ∷ fs) h = absurd (omega (arith, accepted_head rows made at Unreadable fs h))

pub judged_readable : (rows : ℕ) (made : Bool) (left : Option ℕ) (at : ℕ) (fs : List Field) → (judged rows made left at fs).number ≡ 0 → readable fs ≡ true
unfolding judged
judged_readable rows made left at fs h =
    accepted_readable rows made at fs (bad_zero (verdict rows made at fs) (left_behind (open_after at fs left)) h).0

-- ---- the verdict, step by step

module _ (list : List ℕ) (b : Board) where
  -- 1 to 3 come first, with place 0
  pub verdict_given : given_of b ≢ 0 → verdict_of list b ≡ bad (given_of b) 0
  unfolding verdict_of
  verdict_given h = bad_first (bad (given_of b) 0) _ h

  module _ (g : given_of b ≡ 0) where
    pub verdict_judged : verdict_of list b ≡ judged (rows_of b) b.state.loaded None 0 (fields list)
    unfolding verdict_of
    verdict_judged = bad_later (bad (given_of b) 0) _ g

    -- then the first field that is refused
    pub verdict_fields : (verdict (rows_of b) b.state.loaded 0 (fields list)).number ≢ 0
        → verdict_of list b ≡ verdict (rows_of b) b.state.loaded 0 (fields list)
    verdict_fields h = verdict_judged ∙ judged_refused (rows_of b) b.state.loaded None 0 (fields list) h

    -- and where none is, what is left behind
    pub verdict_left : (verdict (rows_of b) b.state.loaded 0 (fields list)).number ≡ 0 → verdict_of list b ≡ left_behind (open_of list)
    verdict_left h = verdict_judged ∙ judged_passed (rows_of b) b.state.loaded None 0 (fields list) h

  -- an accepted list passes all three: the state and the lengths are as they should be
  module _ (h : (verdict_of list b).number ≡ 0) where
    steps : (given_of b ≡ 0) × ((judged (rows_of b) b.state.loaded None 0 (fields list)).number ≡ 0)
    unfolding verdict_of
    steps = bad_zero (bad (given_of b) 0) (judged (rows_of b) b.state.loaded None 0 (fields list)) h

    later : ((verdict (rows_of b) b.state.loaded 0 (fields list)).number ≡ 0) × ((left_behind (open_of list)).number ≡ 0)
    unfolding judged
    later = bad_zero (verdict (rows_of b) b.state.loaded 0 (fields list)) (left_behind (open_of list)) steps.1

    pub accepted_given : given_of b ≡ 0
    accepted_given = steps.0

    -- no field is refused
    pub accepted_fields : (verdict (rows_of b) b.state.loaded 0 (fields list)).number ≡ 0
    accepted_fields = later.0

    pub accepted_reads : readable (fields list) ≡ true
    accepted_reads = accepted_readable (rows_of b) b.state.loaded 0 (fields list) accepted_fields

    -- and no mask load is left open
    pub accepted_closed : open_of list ≡ None
    accepted_closed = left_zero (open_of list) later.1

    pub accepted_zeros : verdict_of list b ≡ bad 0 0
    accepted_zeros = verdict_left accepted_given accepted_fields ∙ ap left_behind accepted_closed ∙ left_none

-- ---- the call, by any engine

module _ (e : Engine) (list : List ℕ) (b : Board) where
  pub call_given_by : (run_call_by e list b).given ≡ verdict_of list b
  unfolding run_call_by
  call_given_by = refl

  -- an accepted list leaves what its cycles leave, run in order
  pub call_runs_by : (verdict_of list b).number ≡ 0 → (run_call_by e list b).after ≡ run_by (step_by e) (cycles_of list) b
  unfolding run_call_by
  call_runs_by h = leaves_made (verdict_of list b).number b (run_by (step_by e) (cycles_of list) b) h

  -- a refused list changes nothing
  pub call_refuses_by : (verdict_of list b).number ≢ 0 → (run_call_by e list b).after ≡ b
  unfolding run_call_by
  call_refuses_by h = leaves_before (verdict_of list b).number b (run_by (step_by e) (cycles_of list) b) h

  -- where the engine runs the list itself: 1 to 3, and else the list's own verdict and the run
  pub call_first_by : given_of b ≢ 0 → run_call_by e list b ≡ gives (bad (given_of b) 0) b
  unfolding run_call_by
  call_first_by h =
      let v = verdict_given list b h in
      ap₂ gives v (call_refuses_by (λ z. h (sym (ap (λ (w : Bad). w.number) v) ∙ z)))

  pub call_checked_by : given_of b ≡ 0
      → (let v = judged (rows_of b) b.state.loaded None 0 (fields list) in
      run_call_by e list b ≡ gives v (leaves v.number b (run_by (step_by e) (cycles_of list) b)))
  unfolding run_call_by
  call_checked_by g = ap (λ (v : Bad). gives v (leaves v.number b (run_by (step_by e) (cycles_of list) b))) (verdict_judged list b g)

-- two engines that do the same give the same answers and leave the same
pub calls_same : {e f : Engine} → ((c : Cycle) (b : Board) → e c b ≡ f c b) → (list : List ℕ) (b : Board) → run_call_by e list b ≡ run_call_by f list b
unfolding run_call_by
calls_same h list b =
    ap (λ (x : Board). gives (verdict_of list b) (leaves (verdict_of list b).number b x)) (runs_same (steps_same h) (cycles_of list) b)

-- ---- and by the engine of the rules

module _ (list : List ℕ) (b : Board) where
  pub call_given : (run_call list b).given ≡ verdict_of list b
  call_given = call_given_by effect list b

  pub call_runs : (verdict_of list b).number ≡ 0 → (run_call list b).after ≡ run (cycles_of list) b
  call_runs = call_runs_by effect list b

  pub call_refuses : (verdict_of list b).number ≢ 0 → (run_call list b).after ≡ b
  call_refuses = call_refuses_by effect list b
