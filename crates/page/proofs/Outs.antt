-- The three ways out of the call: n and w are the number and the verdict that the code has. Assumes nothing.
use Rattle.std.proofs.Common.{◌≡◌, sym, ap, ◌∙◌, ◌&&◌, List, ◌≢◌, ℕ, ◌≤◌, leb, length}
use Rattle.numbers.specs.Refuse.{refuse}
use Rattle.list.specs.Meaning.{Bad}
use Rattle.list.specs.Meaning.{bad}
use Rattle.std.specs.Prelude.Option.{Some}
use Rattle.page.specs.Rectangles.{items}
use Rattle.page.specs.Calls.{fills_of, plans, joined, verdict, judged, page_refusal, Outcome, refused, outcome, page_answer, page_call}
use Rattle.page.proofs.CallLaws.{page_refuses, page_writes, rows_first, rows_fine, rows_later, accepted, accepted_zeros}

module _ (rows persistent : ℕ) (rectangles out : List ℕ) (n : ℕ) (e : n ≡ refuse (leb 1 rows && leb rows 512) 2 0) where
  refuses : (w : Bad) → w ≡ page_refusal rows persistent rectangles (length out) → w.number ≢ 0
      → outcome (refused w.number w.place) out ≡ page_call rows persistent rectangles out
  refuses w f h =
      ap (λ (x : Bad). outcome (refused x.number x.place) out) f
      ∙ sym (page_refuses rows persistent rectangles out (λ z. h (ap (λ (x : Bad). x.number) f ∙ z)))

  pub rows_out : n ≢ 0 → outcome (refused n 0) out ≡ page_call rows persistent rectangles out
  rows_out h = refuses (bad n 0) (ap (λ (x : ℕ). bad x 0) e ∙ sym (rows_first rows persistent rectangles out (λ z. h (e ∙ z)))) h

  module _ (z : n ≡ 0) where
    pub fitted : (1 ≤ rows) × (rows ≤ 512)
    fitted = rows_fine rows persistent rectangles out (sym e ∙ z)

    module _ (w : Bad) (q : w ≡ judged rows persistent (Some (length out)) 0 (items rectangles)) where
      found : w ≡ page_refusal rows persistent rectangles (length out)
      found = q ∙ sym (rows_later rows persistent rectangles out (sym e ∙ z))

      pub refused_out : w.number ≢ 0 → outcome (refused w.number w.place) out ≡ page_call rows persistent rectangles out
      refused_out h = refuses w found h

      module _ (h : w.number ≡ 0) where
        none : (page_refusal rows persistent rectangles (length out)).number ≡ 0
        none = sym (ap (λ (x : Bad). x.number) found) ∙ h

        pub taken : (1 ≤ rows) × (rows ≤ 512) × ((verdict rows 0 (items rectangles)).number ≡ 0) × (length (joined (fills_of rows rectangles)) ≤ length out)
        taken = let a = accepted rows persistent rectangles out none in (a.least, a.most, a.fields, a.room)

        pub done_out : (o : Outcome) → o ≡ page_answer (bad 0 0) (joined (fills_of rows rectangles)) (length (plans (fills_of rows rectangles))) out
            → o ≡ page_call rows persistent rectangles out
        done_out o f = f ∙ sym (page_writes rows persistent rectangles out (accepted_zeros rows persistent rectangles out (accepted rows persistent rectangles out none)))
