-- The ways out of each call, by what the code has. Assumes nothing.
use Rattle.std.proofs.Common.{◌≡◌, sym, ap, ap₂, ◌∙◌, Bool, true, List, ◌≢◌, ℕ, eqb, length}
use Rattle.numbers.specs.Refuse.{refuse, first_of, leaves}
use Rattle.numbers.specs.RefuseLaws.{leaves_made, leaves_before, first_of_is}
use Rattle.vram.specs.Board.{Board, effect}
use Rattle.vram.specs.Step.{given_of}
use Rattle.list.specs.Meaning.{Bad}
use Rattle.list.specs.Fields.{fields}
use Rattle.std.specs.Prelude.Option.{None}
use Rattle.list.proofs.JudgeLaws.{bad_first, bad_later}
use Rattle.list.specs.Meaning.{bad, first_bad, judged, readable, cycles_of, verdict_of as list_verdict, Outcome as ListOutcome, run_call as list_call}
use Rattle.list.proofs.CallLaws.{judged_readable, accepted_reads, call_given}
use Rattle.marks.specs.Marks.{marked_by_all}
use Rattle.marks.specs.Calls.{length_number, verdict_of, gives, run_call, noted, mark_call}
use Rattle.marks.proofs.CallLaws.{length_fine, length_zero, length_other, verdict_18, run_first_by, run_refuses_by, run_is}

-- ---- a list with marks

-- 1 to 3 and 18 in one number: g is what the first say, k what 18 says, n the first of both
module _ (b : Board) (marks : List ℕ) (g k n : ℕ) (p : g ≡ given_of b) (q : k ≡ length_number (length marks)) (e : n ≡ refuse (eqb g 0) g k) where
  first_number_is : n ≡ first_of (given_of b) (length_number (length marks))
  first_number_is = e ∙ first_of_is g k ∙ ap₂ first_of p q

module _ (list : List ℕ) (b : Board) (marks : List ℕ) where
  -- 1 to 3
  pub given_out : (n : ℕ) → n ≡ given_of b → n ≢ 0 → gives (bad n 0) b marks ≡ run_call list b marks
  given_out n g h = ap (λ (x : ℕ). gives (bad x 0) b marks) g ∙ sym (run_first_by effect list b marks (λ z. h (g ∙ z)))

  -- then 18
  pub length_out : 0 ≡ given_of b → (n : ℕ) → n ≡ length_number (length marks) → n ≢ 0 → gives (bad n 0) b marks ≡ run_call list b marks
  length_out g n e h =
      let o : length marks ≢ 64 = λ y. h (e ∙ ap length_number y ∙ length_fine) in
      let v = verdict_18 list b (length marks) (sym g) o in
      let w : bad n 0 ≡ verdict_of list b (length marks) = ap (λ (x : ℕ). bad x 0) (e ∙ length_other (length marks) o) ∙ sym v in
      ap (λ (v : Bad). gives v b marks) w ∙ sym (run_refuses_by effect list b marks (λ z. h (ap (λ (v : Bad). v.number) w ∙ z)))

  -- and then the list's own answer
  module _ (e : 0 ≡ length_number (length marks)) (o : ListOutcome) (f : o ≡ list_call list b) where
    marked_out : (left : List ℕ) → left ≡ leaves o.given.number marks (marked_by_all (cycles_of list) marks) → gives o.given o.after left ≡ run_call list b marks
    marked_out left l =
        ap (gives o.given o.after) l
        ∙ ap (λ (x : ListOutcome). gives x.given x.after (leaves x.given.number marks (marked_by_all (cycles_of list) marks))) f
        ∙ sym (run_is effect list b marks (length_zero (length marks) (sym e)))

    pub refused_out : o.given.number ≢ 0 → gives o.given o.after marks ≡ run_call list b marks
    refused_out h = marked_out marks (sym (leaves_before o.given.number marks _ h))

    pub accepted_list : o.given.number ≡ 0 → readable (fields list) ≡ true
    accepted_list h =
        let z : (list_verdict list b).number ≡ 0 = sym (ap (λ (x : ListOutcome). x.given.number) f ∙ ap (λ (v : Bad). v.number) (call_given list b)) ∙ h in
        accepted_reads list b z

    pub done_out : o.given.number ≡ 0 → (left : List ℕ) → left ≡ marked_by_all (cycles_of list) marks → gives o.given o.after left ≡ run_call list b marks
    done_out h left l = marked_out left (l ∙ sym (leaves_made o.given.number marks _ h))

-- ---- a list checked and marked

module _ (list : List ℕ) (rows : ℕ) (made : Bool) (marks : List ℕ) where
  abbrev own : Bad
  own = judged rows made None 0 (fields list)

  abbrev first : Bad
  first = first_bad (bad (length_number (length marks)) 0) own

  unmarked_out : (v : Bad) → v ≡ first → v.number ≢ 0 → noted v marks ≡ mark_call list rows made marks
  unfolding mark_call
  unmarked_out v p h = ap₂ noted p (sym (leaves_before first.number marks _ (λ z. h (ap (λ (w : Bad). w.number) p ∙ z))))

  pub unfit_out : (n : ℕ) → n ≡ length_number (length marks) → n ≢ 0 → noted (bad n 0) marks ≡ mark_call list rows made marks
  unfit_out n e h =
      unmarked_out (bad n 0) (ap (λ (x : ℕ). bad x 0) e ∙ sym (bad_first (bad (length_number (length marks)) 0) own (λ z. h (e ∙ z)))) h

  module _ (e : 0 ≡ length_number (length marks)) (v : Bad) (q : v ≡ own) where
    is_first : v ≡ first
    is_first = q ∙ sym (bad_later (bad (length_number (length marks)) 0) own (sym e))

    pub turned_down : v.number ≢ 0 → noted v marks ≡ mark_call list rows made marks
    turned_down = unmarked_out v is_first

    module _ (h : v.number ≡ 0) where
      pub checked_list : readable (fields list) ≡ true
      checked_list = judged_readable rows made None 0 (fields list) (sym (ap (λ (w : Bad). w.number) q) ∙ h)

      pub checked_out : (left : List ℕ) → left ≡ marked_by_all (cycles_of list) marks → noted v left ≡ mark_call list rows made marks
      unfolding mark_call
      checked_out left l = ap₂ noted is_first (l ∙ sym (leaves_made first.number marks _ (sym (ap (λ (w : Bad). w.number) is_first) ∙ h)))
