-- A page is its fills called one by one, with the buffer moved along: change request M-103. Assumes nothing.
use Rattle.std.specs.Prelude.{ℕ, ◌+◌, ◌≤◌, ◌≡◌, refl, take}
use Rattle.std.proofs.Math.Path.{sym, ap, ap₂}
use Rattle.std.proofs.Common.{◌∙◌, arith, drop-drop, List, [], ◌∷◌, ◌++◌, append_assoc}
use Rattle.std.proofs.Math.ListN.{length, drop, length-drop}
use Rattle.std.proofs.Math.Seq.{drop-append_seam}
use Rattle.numbers.specs.Buffer.{over}
use Rattle.numbers.specs.BufferLaws.{take_over}
use Rattle.list.specs.Meaning.{bad}
use Rattle.planner.specs.Fill.{Fill, plan}
use Rattle.planner.specs.Calls.{list_of, fill_call, Outcome as Fills, outcome as fill_outcome}
use Rattle.planner.proofs.CallLaws.{filled, fill_fits}
use Rattle.page.specs.Calls.{fills_of, plans, joined, Outcome, outcome, page_answer, page_call}
use Rattle.page.proofs.CallLaws.{plans_none, joined_none, joined_more, joined_length, plans_length, accepted, page_number, page_done}
use Rattle.page.proofs.Each.{Good, Each, each_first, each_later, page_good}

-- ---- single calls: each gets what the one before has left of the buffer, and the counts are added

-- after a fill that has left o, in front of what the later calls give
abbrev pub before : Fills → Outcome → Outcome
before o later =
    outcome
    (record { number = 0; place = 0; bytes = o.answer.bytes + later.answer.bytes; cycles = o.answer.cycles + later.answer.cycles })
    (take o.answer.bytes o.buffer ++ later.buffer)

unfoldable pub one_by_one : List Fill → List ℕ → Outcome
one_by_one [] out = outcome (record { number = 0; place = 0; bytes = 0; cycles = 0 }) out
one_by_one (f ∷ fs) out = let o = fill_call f out in before o (one_by_one fs (drop o.answer.bytes o.buffer))

-- each of them answers 0
unfoldable pub Done : List Fill → List ℕ → Type 0
Done [] out = Unit
Done (f ∷ fs) out = let o = fill_call f out in (o.answer.number ≡ 0) × Done fs (drop o.answer.bytes o.buffer)

-- ---- they leave the joined lists

module _ (rows : ℕ) where
  -- what one leaves: its list, and of the buffer what comes after
  moved : (f : Fill) (out : List ℕ) → drop (length (list_of f)) (over (list_of f) out) ≡ drop (length (list_of f)) out
  moved f out = drop-append_seam (list_of f) (drop (length (list_of f)) out)

  pub calls_done : (fs : List Fill) (out : List ℕ) → Each (Good rows) fs → length (joined fs) ≤ length out → Done fs out
  unfolding Done
  calls_done [] out e h = tt
  calls_done (f ∷ fs) out e h =
      let n = joined_length f fs in
      let o = fill_fits f out (each_first e).asked (omega arith) in
      rw (o, moved f out) (refl, calls_done fs (drop (length (list_of f)) out) (each_later e) (rw length-drop (omega arith)))

  pub calls_join : (fs : List Fill) (out : List ℕ) → Each (Good rows) fs → length (joined fs) ≤ length out
      → one_by_one fs out ≡ page_answer (bad 0 0) (joined fs) (length (plans fs)) out
  unfolding one_by_one
  calls_join [] out e h = sym (ap₂ (λ (l : List ℕ) (n : ℕ). page_answer (bad 0 0) l n out) joined_none (ap length plans_none))
  calls_join (f ∷ fs) out e h =
      let n = joined_length f fs in
      let l = list_of f in
      let rest = drop (length l) out in
      let o = fill_fits f out (each_first e).asked (omega arith) in
      let w : Fills = fill_outcome (filled 0 (length l) (length (plan f))) (over l out) in
      let b : over (joined (f ∷ fs)) out ≡ l ++ over (joined fs) rest
      = ap (λ (x : List ℕ). x ++ drop (length x) out) (joined_more f fs) ∙ append_assoc l (joined fs) (drop (length (l ++ joined fs)) out)
      ∙ ap (λ (x : List ℕ). l ++ (joined fs ++ x)) (ap (λ (k : ℕ). drop k out) (sym (ap length (joined_more f fs)) ∙ n) ∙ sym (drop-drop (length (joined fs)) (length l) out)) in
      ap (λ (x : Fills). before x (one_by_one fs (drop x.answer.bytes x.buffer))) o
      ∙ ap (λ (x : List ℕ). before w (one_by_one fs x)) (moved f out)
      ∙ ap (before w) (calls_join fs rest (each_later e) (rw length-drop (omega arith)))
      ∙ ap (λ (x : List ℕ). outcome (record { number = 0; place = 0; bytes = length l + length (joined fs); cycles = length (plan f) + length (plans fs) }) (x ++ over (joined fs) rest))
      (take_over l out)
      ∙ ap₂ (λ (x y : ℕ). outcome (record { number = 0; place = 0; bytes = x; cycles = y }) (l ++ over (joined fs) rest)) (sym n) (sym (plans_length f fs))
      ∙ ap (outcome (record { number = 0; place = 0; bytes = length (joined (f ∷ fs)); cycles = length (plans (f ∷ fs)) })) (sym b)

-- ---- so a page that is not refused is the same bytes, the sum of their counts, and none of the single calls is refused

module _ (rows persistent : ℕ) (rectangles out : List ℕ) (z : (page_call rows persistent rectangles out).answer.number ≡ 0) where
  pub page_one_by_one : page_call rows persistent rectangles out ≡ one_by_one (fills_of rows rectangles) out
  page_one_by_one =
      page_done rows persistent rectangles out z
      ∙ sym
      (calls_join rows (fills_of rows rectangles) out (page_good rows persistent rectangles out z)
      (accepted rows persistent rectangles out (sym (page_number rows persistent rectangles out) ∙ z)).room)

  pub singly_done : Done (fills_of rows rectangles) out
  singly_done =
      calls_done rows (fills_of rows rectangles) out (page_good rows persistent rectangles out z)
      (accepted rows persistent rectangles out (sym (page_number rows persistent rectangles out) ∙ z)).room
