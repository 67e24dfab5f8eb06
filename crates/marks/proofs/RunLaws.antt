-- Laws of marked runs: what they mark, and what they leave alone. Assumes nothing.
use Rattle.std.specs.Prelude.{◌≡◌, Bool, true, false, ◌||◌, ◌≢◌, ℕ, ◌/◌, ◌<◌, length}
use Rattle.std.proofs.Math.Path.{refl, sym, ap}
use Rattle.std.proofs.Common.{◌∙◌, subst, true≢false, List, [], ◌∷◌, ◌++◌}
use Rattle.std.proofs.Math.Bool.{or_assoc}
use mathlib.Core.List.{Memᴰ}
use Rattle.std.proofs.Math.Decide.{ℕ_discrete}
use Rattle.numbers.specs.RefuseLaws.{leaves_made, leaves_before}
use Rattle.numbers.specs.Between.{neither}
use Rattle.vram.specs.declared.Cycle.{Cycle}
use Rattle.vram.specs.Board.{Board, effect}
use Rattle.vram.specs.Step.{step, run_by, run}
use Rattle.vram.specs.Kinds.{names}
use Rattle.vram.specs.Writes.{row_of}
use Rattle.vram.proofs.RuleLaws.{step_row, run_sized}
use Rattle.vram.proofs.CaseLaws.{run_none, run_next, names_fitted}
use Rattle.list.specs.Meaning.{Bad}
use Rattle.list.specs.Meaning.{cycles_of}
use Rattle.list.proofs.CallLaws.{call_runs}
use Rattle.list.proofs.PerformLaws.{call_performs, accepted_cycle}
use Rattle.marks.specs.Marks.{is_marked, marked_by_all, named_in}
use Rattle.marks.proofs.MarkLaws.{all_marks, all_append}
use Rattle.marks.specs.Calls.{Outcome, verdict_of}
use Rattle.marks.proofs.CallLaws.{verdict_zero, run_given_by, run_refuses_by, run_runs_by}
use Rattle.marks.specs.Runs.{Run, Drawn, drawn, board_of, call_of, ran, after, in_order, after_all, ran_all}

-- ---- cycles and rows

named_append : (q : ℕ) (l k : List Cycle) → named_in q (l ++ k) ≡ (named_in q l || named_in q k)
unfolding named_in
named_append q [] k = refl
named_append q (c ∷ l) k =
    ap (λ (t : Bool). names q c || t) (named_append q l k) ∙ sym (or_assoc (names q c) (named_in q l) (named_in q k))

-- a row that no write names holds the words that it held
run_row : (q : ℕ) (l : List Cycle) (b : Board) → named_in q l ≡ false → row_of q (run l b).memory ≡ row_of q b.memory
unfolding named_in
run_row q [] b h = ap (λ (x : Board). row_of q x.memory) (run_none step b)
run_row q (c ∷ l) b h =
    let n = neither (names q c) (named_in q l) h in
    ap (λ (x : Board). row_of q x.memory) (run_next step c l b) ∙ run_row q l (step c b) n.1 ∙ step_row q c b n.0

-- ---- one run

module _ (r : Run) (d : Drawn) where
  abbrev verdict : Bad
  verdict = verdict_of r.list (board_of r d) (length d.marks)

  ran_accepted : verdict.number ≡ 0 → ran r d ≡ cycles_of r.list
  unfolding ran
  ran_accepted z = leaves_made _ [] (cycles_of r.list) (ap (λ (v : Bad). v.number) (run_given_by effect r.list (board_of r d) d.marks) ∙ z)

  ran_refused : verdict.number ≢ 0 → ran r d ≡ []
  unfolding ran
  ran_refused n = leaves_before _ [] (cycles_of r.list) (λ z. n (sym (ap (λ (v : Bad). v.number) (run_given_by effect r.list (board_of r d) d.marks)) ∙ z))

  -- what a run leaves is the effect of each cycle of `ran`, in order: none is passed over, and nothing else has drawn
  pub ran_performs : (call_of r d).after ≡ run_by effect (ran r d) (board_of r d)
  ran_performs = elim (ℕ_discrete verdict.number 0) [
    | yes z ↦
        let a = (verdict_zero r.list (board_of r d) (length d.marks) z).1 in
        ap (λ (o : Outcome). o.after) (run_runs_by effect r.list (board_of r d) d.marks z)
        ∙ sym (call_runs r.list (board_of r d) a)
        ∙ call_performs r.list (board_of r d) a
        ∙ sym (ap (λ (l : List Cycle). run_by effect l (board_of r d)) (ran_accepted z))
    | no n ↦
        ap (λ (o : Outcome). o.after) (run_refuses_by effect r.list (board_of r d) d.marks n)
        ∙ sym (ap (λ (l : List Cycle). run_by effect l (board_of r d)) (ran_refused n) ∙ run_none effect (board_of r d))
  ]

  -- the marks are those of the cycles that have run, and the memory is what these leave
  after_ran : after r d ≡ drawn (run (ran r d) (board_of r d)).memory (marked_by_all (ran r d) d.marks)
  unfolding marked_by_all
  after_ran = elim (ℕ_discrete verdict.number 0) [
    | yes z ↦
        ap (λ (o : Outcome). drawn o.after.memory o.marks) (run_runs_by effect r.list (board_of r d) d.marks z)
        ∙ sym (ap (λ (l : List Cycle). drawn (run l (board_of r d)).memory (marked_by_all l d.marks)) (ran_accepted z))
    | no n ↦
        ap (λ (o : Outcome). drawn o.after.memory o.marks) (run_refuses_by effect r.list (board_of r d) d.marks n)
        ∙ sym (ap (λ (l : List Cycle). drawn (run l (board_of r d)).memory (marked_by_all l d.marks)) (ran_refused n)
        ∙ ap (λ (b : Board). drawn b.memory d.marks) (run_none step (board_of r d)))
  ]

  after_memory_length : length (after r d).memory ≡ length d.memory
  after_memory_length = ap (λ (x : Drawn). length x.memory) after_ran ∙ (run_sized (ran r d) (board_of r d)).memory

-- ---- any number of runs

module _ {R : Type 0} (step : R → Drawn → Drawn) where
  pub order_none : (d : Drawn) → in_order step [] d ≡ d
  unfolding in_order
  order_none d = refl

  pub order_next : (r : R) (rs : List R) (d : Drawn) → in_order step (r ∷ rs) d ≡ in_order step rs (step r d)
  unfolding in_order
  order_next r rs d = refl

pub all_memory_length : (rs : List Run) (d : Drawn) → length (after_all rs d).memory ≡ length d.memory
unfolding in_order
all_memory_length [] d = refl
all_memory_length (r ∷ rs) d = all_memory_length rs (after r d) ∙ after_memory_length r d

-- the marks are those of all cycles that have run
pub all_marked : (rs : List Run) (d : Drawn) → (after_all rs d).marks ≡ marked_by_all (ran_all rs d) d.marks
unfolding in_order ran_all marked_by_all
all_marked [] d = refl
all_marked (r ∷ rs) d =
    all_marked rs (after r d)
    ∙ ap (λ (x : Drawn). marked_by_all (ran_all rs (after r d)) x.marks) (after_ran r d)
    ∙ sym (all_append (ran r d) (ran_all rs (after r d)) d.marks)

-- so a mark is set exactly where it was set before, or a word or block write that names its row has run
pub runs_mark : (rs : List Run) (d : Drawn) (q : ℕ) → q / 8 < length d.marks
    → is_marked (after_all rs d).marks q ≡ (is_marked d.marks q || named_in q (ran_all rs d))
runs_mark rs d q h = ap (λ (m : List ℕ). is_marked m q) (all_marked rs d) ∙ all_marks (ran_all rs d) d.marks q h

-- a row that no write names that has run holds the words that it held
pub runs_row : (rs : List Run) (d : Drawn) (q : ℕ) → named_in q (ran_all rs d) ≡ false → row_of q (after_all rs d).memory ≡ row_of q d.memory
unfolding in_order ran_all
runs_row [] d q h = refl
runs_row (r ∷ rs) d q h =
    let n = neither (named_in q (ran r d)) (named_in q (ran_all rs (after r d))) (sym (named_append q (ran r d) (ran_all rs (after r d))) ∙ h) in
    runs_row rs (after r d) q n.1
    ∙ ap (λ (x : Drawn). row_of q x.memory) (after_ran r d)
    ∙ run_row q (ran r d) (board_of r d) n.0

-- ---- what is named is fitted

named_some : (q : ℕ) (l : List Cycle) → named_in q l ≡ true → (c : Cycle) × Memᴰ c l × (names q c ≡ true)
unfolding named_in
named_some q [] e = absurd (true≢false (sym e))
named_some q (c ∷ l) e = go (names q c) refl (named_some q l) e
  where
    go : (t : Bool) → names q c ≡ t → (named_in q l ≡ true → (d : Cycle) × Memᴰ d l × (names q d ≡ true)) → (t || named_in q l) ≡ true
        → (d : Cycle) × Memᴰ d (c ∷ l) × (names q d ≡ true)
    go true n ih e = (c, Memᴰ.head refl, n)
    go false n ih e = let r = ih e in (r.0, Memᴰ.tail r.1, r.2)

ran_fitted : (r : Run) (d : Drawn) (q : ℕ) → named_in q (ran r d) ≡ true → q < length d.memory / 512
unfolding named_in
ran_fitted r d q e = elim (ℕ_discrete (verdict r d).number 0) [
  | yes z ↦
      let s = named_some q (cycles_of r.list) (ap (named_in q) (sym (ran_accepted r d z)) ∙ e) in
      let a = accepted_cycle r.list (board_of r d) (verdict_zero r.list (board_of r d) (length d.marks) z).1 s.0 s.1 in
      names_fitted (length d.memory / 512) a.0 q s.0 s.2 a.1
  | no n ↦ absurd (true≢false (sym e ∙ ap (named_in q) (ran_refused r d n)))
]

pub runs_fitted : (rs : List Run) (d : Drawn) (q : ℕ) → named_in q (ran_all rs d) ≡ true → q < length d.memory / 512
unfolding ran_all named_in
runs_fitted [] d q e = absurd (true≢false (sym e))
runs_fitted (r ∷ rs) d q e = go (named_in q (ran r d)) refl (runs_fitted rs (after r d) q) (sym (named_append q (ran r d) (ran_all rs (after r d))) ∙ e)
  where
    go : (t : Bool) → named_in q (ran r d) ≡ t → (named_in q (ran_all rs (after r d)) ≡ true → q < length (after r d).memory / 512)
        → (t || named_in q (ran_all rs (after r d))) ≡ true → q < length d.memory / 512
    go true n ih f = ran_fitted r d q n
    go false n ih f = subst (λ (k : ℕ). q < k / 512) (after_memory_length r d) (ih f)
