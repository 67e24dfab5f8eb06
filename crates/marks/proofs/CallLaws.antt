-- Laws of the calls: what refuses them, in order, and what they leave. Assumes nothing.
use Rattle.std.specs.Prelude.{◌≡◌, false, List, ◌≢◌, ℕ, ◌-◌, ◌≤◌, ◌<◌, eqb, leb, length}
use Rattle.std.proofs.Math.Path.{refl, sym, ap, ap₂}
use Rattle.std.proofs.Common.{◌∙◌, eq-eqb, ne_eqb, le-leb, eqb-true, leb-true}
use Rattle.std.proofs.Math.Decide.{ℕ_discrete}
use borrow.Author.Tests.{lt-leb}
use Rattle.numbers.specs.Refuse.{leaves}
use Rattle.numbers.specs.RefuseLaws.{refuse_zero, first_of_zero, leaves_made, leaves_before}
use Rattle.vram.specs.declared.Cycle.{Cycle}
use Rattle.vram.specs.Board.{Board, effect}
use Rattle.vram.specs.Step.{given_of, rows_of, Engine, step_by, run_by}
use Rattle.vram.specs.StepLaws.{steps_same, runs_same}
use Rattle.list.specs.Meaning.{Bad}
use Rattle.list.specs.Meaning.{bad, first_bad, cycles_of, verdict_of as list_verdict, run_call_by as list_call_by}
use Rattle.list.proofs.JudgeLaws.{bad_first, bad_later, bad_zero}
use Rattle.list.proofs.PersistLaws.{call_plain}
use Rattle.list.proofs.CallLaws.{verdict_given, verdict_judged, call_given_by, call_runs_by, call_refuses_by}
use Rattle.std.specs.Prelude.{Option}
use Rattle.std.specs.Prelude.Option.{None, Some}
use Rattle.marks.specs.Marks.{no_marks, marked_by_all, first_marked}
use Rattle.marks.specs.Calls.{length_number, verdict_of, Outcome, gives, run_call_by, run_call, mark_call, cleared, clear_call, next_number, answers, next_call, values, values_of, answered}

-- ---- 18

pub length_fine : length_number 64 ≡ 0
unfolding length_number
length_fine = refl

pub length_other : (bytes : ℕ) → bytes ≢ 64 → length_number bytes ≡ 18
unfolding length_number
length_other bytes h = rw (ne_eqb bytes 64 h)

pub length_zero : (bytes : ℕ) → length_number bytes ≡ 0 → bytes ≡ 64
unfolding length_number
length_zero bytes e = eqb-true bytes 64 (refuse_zero (eqb bytes 64) 17 0 e).0

-- ---- the verdict, step by step

module _ (list : List ℕ) (b : Board) (bytes : ℕ) where
  -- 1 to 3 come first, with place 0
  pub verdict_first : given_of b ≢ 0 → verdict_of list b bytes ≡ bad (given_of b) 0
  unfolding verdict_of
  verdict_first h = bad_first (bad (given_of b) 0) _ h

  -- then 18, with place 0
  pub verdict_18 : given_of b ≡ 0 → bytes ≢ 64 → verdict_of list b bytes ≡ bad 18 0
  unfolding verdict_of
  verdict_18 g h =
      bad_later (bad (given_of b) 0) _ g
      ∙ bad_first (bad (length_number bytes) 0) _ (λ z. h (length_zero bytes z))
      ∙ ap (λ (n : ℕ). bad n 0) (length_other bytes h)

  -- and then what refuses the list itself
  pub verdict_list : bytes ≡ 64 → verdict_of list b bytes ≡ list_verdict list b
  unfolding verdict_of
  verdict_list e = elim (ℕ_discrete (given_of b) 0) [
    | yes g ↦ bad_later (bad (given_of b) 0) _ g ∙ bad_later (bad (length_number bytes) 0) _ (ap length_number e ∙ length_fine)
    | no n ↦ verdict_first n ∙ sym (verdict_given list b n)
  ]

  -- an accepted list is one that `list` accepts, with 64 bytes of marks
  pub verdict_zero : (verdict_of list b bytes).number ≡ 0 → (bytes ≡ 64) × ((list_verdict list b).number ≡ 0)
  unfolding verdict_of
  verdict_zero z =
      let p = bad_zero (bad (given_of b) 0) _ z in
      let q = bad_zero (bad (length_number bytes) 0) (list_verdict list b) p.1 in
      (length_zero bytes q.0, q.1)

-- ---- the call, by any engine

module _ (e : Engine) (list : List ℕ) (b : Board) (marks : List ℕ) where
  pub run_given_by : (run_call_by e list b marks).given ≡ verdict_of list b (length marks)
  unfolding run_call_by
  run_given_by = refl

  -- a refusal changes nothing: no mark is set
  pub run_refuses_by : (verdict_of list b (length marks)).number ≢ 0 → run_call_by e list b marks ≡ gives (verdict_of list b (length marks)) b marks
  unfolding run_call_by
  run_refuses_by h =
      let n = (verdict_of list b (length marks)).number in
      ap₂ (gives (verdict_of list b (length marks))) (leaves_before n b _ h) (leaves_before n marks _ h)

  -- an accepted list leaves what its cycles leave, run in order, and marks the rows that its writes name
  pub run_runs_by : (verdict_of list b (length marks)).number ≡ 0
      → run_call_by e list b marks ≡ gives (verdict_of list b (length marks)) (run_by (step_by e) (cycles_of list) b) (marked_by_all (cycles_of list) marks)
  unfolding run_call_by
  run_runs_by h =
      let n = (verdict_of list b (length marks)).number in
      ap₂ (gives (verdict_of list b (length marks))) (leaves_made n b _ h) (leaves_made n marks _ h)

  -- with 64 bytes of marks it answers and leaves what the call without marks does; marks are set where that accepts the list
  pub run_is : length marks ≡ 64
      → (let o = list_call_by e list b in
      run_call_by e list b marks ≡ gives o.given o.after (leaves o.given.number marks (marked_by_all (cycles_of list) marks)))
  unfolding run_call_by
  run_is k =
      let v = verdict_list list b (length marks) k in
      ap (λ (w : Bad). gives w (leaves w.number b (run_by (step_by e) (cycles_of list) b)) (leaves w.number marks (marked_by_all (cycles_of list) marks))) v
      ∙ ap₂ (λ (w : Bad) (x : Board). gives w x (leaves w.number marks (marked_by_all (cycles_of list) marks))) (sym (call_given_by e list b)) left
    where
      left : leaves (list_verdict list b).number b (run_by (step_by e) (cycles_of list) b) ≡ (list_call_by e list b).after
      left = elim (ℕ_discrete (list_verdict list b).number 0) [
        | yes z ↦ leaves_made _ b _ z ∙ sym (call_runs_by e list b z)
        | no n ↦ leaves_before _ b _ n ∙ sym (call_refuses_by e list b n)
      ]

-- two engines that do the same give the same answers and leave the same, marks included
pub marked_same : {e f : Engine} → ((c : Cycle) (b : Board) → e c b ≡ f c b) → (list : List ℕ) (b : Board) (marks : List ℕ)
    → run_call_by e list b marks ≡ run_call_by f list b marks
unfolding run_call_by
marked_same h list b marks =
    let v = verdict_of list b (length marks) in
    ap (λ (x : Board). gives v (leaves v.number b x) (leaves v.number marks (marked_by_all (cycles_of list) marks)))
    (runs_same (steps_same h) (cycles_of list) b)

-- an engine that runs the list itself: 1 to 3, and else what the list is checked and marked with
module _ (e : Engine) (list : List ℕ) (b : Board) (marks : List ℕ) where
  pub run_first_by : given_of b ≢ 0 → run_call_by e list b marks ≡ gives (bad (given_of b) 0) b marks
  run_first_by h =
      let v = verdict_first list b (length marks) h in
      run_refuses_by e list b marks (λ z. h (sym (ap (λ (w : Bad). w.number) v) ∙ z)) ∙ ap (λ (w : Bad). gives w b marks) v

  pub run_marks_by : given_of b ≡ 0
      → (let o = mark_call list (rows_of b) b.state.loaded marks in
      run_call_by e list b marks ≡ gives o.given (leaves o.given.number b (run_by (step_by e) (cycles_of list) b)) o.marks)
  unfolding run_call_by verdict_of mark_call
  run_marks_by g =
      ap (λ (w : Bad). gives w (leaves w.number b (run_by (step_by e) (cycles_of list) b)) (leaves w.number marks (marked_by_all (cycles_of list) marks)))
      (bad_later (bad (given_of b) 0) _ g ∙ ap (first_bad (bad (length_number (length marks)) 0)) (verdict_judged list b g))

-- no marked run, accepted or refused, makes a mask persistent that was not
pub run_plain : (list : List ℕ) (b : Board) (marks : List ℕ) → b.state.persistent ≡ false → (run_call list b marks).after.state.persistent ≡ false
run_plain list b marks h = elim (ℕ_discrete (length marks) 64) [
  | yes e ↦ ap (λ (o : Outcome). o.after.state.persistent) (run_is effect list b marks e) ∙ call_plain list b h
  | no n ↦ ap (λ (o : Outcome). o.after.state.persistent) (run_refuses_by effect list b marks (λ z. n (verdict_zero list b (length marks) z).0)) ∙ h
]

-- ---- all marks cleared

module _ (marks : List ℕ) where
  pub clear_clears : length marks ≡ 64 → clear_call marks ≡ cleared 0 no_marks
  unfolding clear_call
  clear_clears e = rw (e, length_fine)

  pub clear_refuses : length marks ≢ 64 → clear_call marks ≡ cleared 18 marks
  unfolding clear_call
  clear_refuses n = rw (length_other (length marks) n)

-- ---- the next marked row

module _ (marks : List ℕ) (start : ℕ) where
  -- 18 first
  pub next_18 : length marks ≢ 64 → next_call marks start ≡ answers 18 None
  unfolding next_call next_number
  next_18 n = rw (length_other (length marks) n)

  -- then 5
  pub next_5 : length marks ≡ 64 → 511 < start → next_call marks start ≡ answers 5 None
  unfolding next_call next_number
  next_5 e h = rw (e, length_fine, lt-leb start 511 h)

  -- and then the first marked row
  pub next_finds : length marks ≡ 64 → start ≤ 511 → next_call marks start ≡ answers 0 (first_marked marks start (512 - start))
  unfolding next_call next_number
  next_finds e h = rw (e, length_fine, le-leb start 511 h)

  pub next_zero : next_number (length marks) start ≡ 0 → (length marks ≡ 64) × (start ≤ 511)
  unfolding next_number
  next_zero z =
      let p = first_of_zero (length_number (length marks)) _ z in
      (length_zero (length marks) p.0, leb-true _ _ (refuse_zero (leb start 511) 4 0 p.1).0)

-- ---- its values, case by case

pub values_none : values_of None ≡ values 0 0 0
unfolding values_of
values_none = refl

pub values_row : (r : ℕ) → values_of (Some r) ≡ values 0 1 r
unfolding values_of
values_row r = refl

module _ (marks : List ℕ) (start : ℕ) where
  pub answered_18 : length marks ≢ 64 → answered (next_call marks start) ≡ values 18 0 0
  unfolding answered
  answered_18 n = ap answered (next_18 marks start n)

  pub answered_5 : length marks ≡ 64 → 511 < start → answered (next_call marks start) ≡ values 5 0 0
  unfolding answered
  answered_5 e h = ap answered (next_5 marks start e h)

  pub answered_found : length marks ≡ 64 → start ≤ 511 → answered (next_call marks start) ≡ values_of (first_marked marks start (512 - start))
  unfolding answered
  answered_found e h = ap answered (next_finds marks start e h)

  -- the number beside what is found: where it is refused that is none
  pub answered_is : (let m = next_call marks start in answered m ≡ values m.number (values_of m.found).found (values_of m.found).row)
  unfolding answered next_call values_of
  answered_is = elim (ℕ_discrete (next_number (length marks) start) 0) [
    | yes z ↦ rw (eq-eqb (next_number (length marks) start) 0 z, z) (case (first_marked marks start (512 - start)))
    | no n ↦ rw (ne_eqb (next_number (length marks) start) 0 n)
  ]
    where
      case : (f : Option ℕ) → values_of f ≡ values 0 (values_of f).found (values_of f).row
      case None = refl
      case (Some r) = refl
