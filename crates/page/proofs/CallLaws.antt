-- Laws of what refuses a page and of what it answers. Assumes nothing.
use Rattle.std.specs.Prelude.{ℕ, suc, ◌+◌, ◌≤◌, ◌≡◌, Bool, ◌&&◌, cond, ◌≢◌}
use Rattle.std.proofs.Math.Path.{refl, sym, ap, ap₂}
use Rattle.std.proofs.Common.{◌∙◌, arith, length-append, List, [], ◌∷◌, ◌++◌, append_assoc, eq-eqb, ne_eqb, eqb-true, le-leb, leb-true}
use Rattle.std.proofs.Math.Bool.{true, false}
use Rattle.std.proofs.Math.Dec.{eqb, leb}
use Rattle.std.proofs.Math.ListN.{length}
use Rattle.numbers.specs.Refuse.{refuse}
use Rattle.numbers.specs.RefuseLaws.{refuse_zero, leaves_before}
use Rattle.numbers.specs.Between.{both}
use Rattle.numbers.specs.Buffer.{over}
use Rattle.numbers.specs.BufferLaws.{take_over}
use Rattle.vram.specs.declared.Cycle.{Cycle}
use Rattle.list.specs.Meaning.{Bad}
use Rattle.list.specs.Meaning.{bad, first_bad, count_of}
use Rattle.list.proofs.JudgeLaws.{bad_first, bad_later, bad_zero, bad_never}
use Rattle.list.specs.Encode.{encode_all}
use Rattle.list.proofs.EncodeLaws.{count_encode_all}
use Rattle.list.proofs.EncodedLaws.{encode_none, encode_append}
use Rattle.planner.specs.Fill.{Fill, plan}
use Rattle.planner.specs.Calls.{rectangle_ok, list_of}
use Rattle.planner.proofs.CallLaws.{asked_plain}
use Rattle.planner.proofs.ShapeLaws.{measure_number, measure_bytes}
use Rattle.std.specs.Prelude.{Option}
use Rattle.std.specs.Prelude.Option.{Some}
use Rattle.page.specs.Rectangles.{Item, Names, Unreadable, whole, item_of, items, fill_of}
use Rattle.page.specs.RectangleLaws.{item_not, items_nil}
use Rattle.page.specs.Rooms.{takes, room_number}
use Rattle.page.specs.RoomLaws.{takes_none, takes_more, room_short}
use Rattle.page.specs.Calls.{fills, fills_of, plans, joined, number_of, verdict, judged, measured, page_refusal, Outcome, refused, outcome, page_answer, page_call, list_in}

-- ---- the joined lists

pub plans_none : plans [] ≡ []
unfolding plans
plans_none = refl

pub plans_more : (f : Fill) (fs : List Fill) → plans (f ∷ fs) ≡ plan f ++ plans fs
unfolding plans
plans_more f fs = refl

pub joined_none : joined [] ≡ []
joined_none = ap encode_all plans_none ∙ encode_none

pub joined_more : (f : Fill) (fs : List Fill) → joined (f ∷ fs) ≡ list_of f ++ joined fs
joined_more f fs = ap encode_all (plans_more f fs) ∙ encode_append (plan f) (plans fs)

pub plans_append : (fs gs : List Fill) → plans (fs ++ gs) ≡ plans fs ++ plans gs
unfolding plans
plans_append [] gs = refl
plans_append (f ∷ fs) gs = ap (λ (l : List Cycle). plan f ++ l) (plans_append fs gs) ∙ sym (append_assoc (plan f) (plans fs) (plans gs))

pub joined_append : (fs gs : List Fill) → joined (fs ++ gs) ≡ joined fs ++ joined gs
joined_append fs gs = ap encode_all (plans_append fs gs) ∙ encode_append (plans fs) (plans gs)

pub joined_length : (f : Fill) (fs : List Fill) → length (joined (f ∷ fs)) ≡ length (list_of f) + length (joined fs)
joined_length f fs = ap length (joined_more f fs) ∙ length-append (list_of f) (joined fs)

pub plans_length : (f : Fill) (fs : List Fill) → length (plans (f ∷ fs)) ≡ length (plan f) + length (plans fs)
plans_length f fs = ap length (plans_more f fs) ∙ length-append (plan f) (plans fs)

-- ---- what is measured of a field

module _ (rows : ℕ) (least : 1 ≤ rows) (most : rows ≤ 512) where
  pub measured_number : (i : Item) → (measured rows i).number ≡ number_of rows i
  unfolding measured number_of
  measured_number (Names r) = measure_number (fill_of rows r) ∙ asked_plain (fill_of rows r) least most refl
  measured_number Unreadable = refl

  -- a field that is not refused names a rectangle, and its fill's list is as long as measured
  pub measured_length : (i : Item) → (measured rows i).number ≡ 0 → (l : List Item)
      → length (joined (fills rows (i ∷ l))) ≡ (measured rows i).bytes + length (joined (fills rows l))
  unfolding measured fills
  measured_length (Names r) z l =
      joined_length (fill_of rows r) (fills rows l) ∙ ap (λ (n : ℕ). n + length (joined (fills rows l))) (sym (measure_bytes (fill_of rows r) z))
  measured_length Unreadable z l = absurd (omega arith)

number_not : (rows : ℕ) (s : List ℕ) → whole s ≡ false → number_of rows (item_of s) ≡ 4
unfolding number_of
number_not rows s h = rw (item_not s h)

-- a field that is not refused is whole
pub number_whole : (rows : ℕ) (s : List ℕ) → number_of rows (item_of s) ≡ 0 → whole s ≡ true
number_whole rows s z = go (whole s) refl
  where
    go : (t : Bool) → whole s ≡ t → t ≡ true
    go true q = refl
    go false q = absurd (omega (arith, number_not rows s q, z))

-- ---- the verdict, field by field

pub verdict_nil : (rows at : ℕ) → verdict rows at [] ≡ bad 0 0
unfolding verdict
verdict_nil rows at = refl

module _ (rows at : ℕ) (i : Item) (l : List Item) where
  pub verdict_good : number_of rows i ≡ 0 → verdict rows at (i ∷ l) ≡ verdict rows (at + 15) l
  unfolding verdict
  verdict_good h = rw (eq-eqb (number_of rows i) 0 h)

  pub verdict_bad : number_of rows i ≢ 0 → verdict rows at (i ∷ l) ≡ bad (number_of rows i) at
  unfolding verdict
  verdict_bad h = rw (ne_eqb (number_of rows i) 0 h)

  -- where fields are accepted the first is, and so are those after it
  module _ (h : (verdict rows at (i ∷ l)).number ≡ 0) where
    pub accepted_head : number_of rows i ≡ 0
    unfolding verdict
    accepted_head = go (eqb (number_of rows i) 0) refl
      where
        go : (t : Bool) → eqb (number_of rows i) 0 ≡ t → number_of rows i ≡ 0
        go true q = eqb-true _ _ q
        go false q = rw q at h

    pub accepted_tail : (verdict rows (at + 15) l).number ≡ 0
    accepted_tail = sym (ap (λ (v : Bad). v.number) (verdict_good accepted_head)) ∙ h

-- whether fields are accepted does not hang on where they stand
pub accepted_any : (rows at to : ℕ) (l : List Item) → (verdict rows at l).number ≡ 0 → (verdict rows to l).number ≡ 0
accepted_any rows at to [] h = ap (λ (v : Bad). v.number) (verdict_nil rows to)
accepted_any rows at to (i ∷ l) h =
    ap (λ (v : Bad). v.number) (verdict_good rows to i l (accepted_head rows at i l h))
    ∙ accepted_any rows (at + 15) (to + 15) l (accepted_tail rows at i l h)

-- ---- fields in order, and then 13 and 15

module _ (rows persistent : ℕ) (room : Option ℕ) (at : ℕ) where
  pub judged_nil : judged rows persistent room at [] ≡ bad (refuse (eqb persistent 0) 13 (room_number room)) 0
  unfolding judged fills
  judged_nil =
      bad_later (verdict rows at []) _ (ap (λ (v : Bad). v.number) (verdict_nil rows at))
      ∙ ap (λ (r : Option ℕ). bad (refuse (eqb persistent 0) 13 (room_number r)) 0) (ap (λ (l : List ℕ). takes room (length l)) joined_none ∙ takes_none room)

  module _ (i : Item) (l : List Item) where
    pub judged_bad : number_of rows i ≢ 0 → judged rows persistent room at (i ∷ l) ≡ bad (number_of rows i) at
    unfolding judged
    judged_bad h =
        let e = verdict_bad rows at i l h in
        bad_first (verdict rows at (i ∷ l)) _ (λ z. h (sym (ap (λ (v : Bad). v.number) e) ∙ z)) ∙ e

    pub judged_good : number_of rows i ≡ 0 → (n : ℕ) → length (joined (fills rows (i ∷ l))) ≡ n + length (joined (fills rows l))
        → judged rows persistent room at (i ∷ l) ≡ judged rows persistent (takes room n) (at + 15) l
    unfolding judged
    judged_good h n e =
        ap₂ (λ (v : Bad) (r : Option ℕ). first_bad v (bad (refuse (eqb persistent 0) 13 (room_number r)) 0))
        (verdict_good rows at i l h)
        (ap (takes room) e ∙ sym (takes_more room n (length (joined (fills rows l)))))

-- ---- the call

module _ (rows persistent : ℕ) (rectangles out : List ℕ) where
  abbrev v : Bad
  v = page_refusal rows persistent rectangles (length out)

  pub page_number : (page_call rows persistent rectangles out).answer.number ≡ v.number
  unfolding page_call
  page_number = refl

  -- a refusal answers zeros besides and writes nothing
  pub page_refuses : v.number ≢ 0 → page_call rows persistent rectangles out ≡ outcome (refused v.number v.place) out
  unfolding page_call
  page_refuses h =
      let bytes = joined (fills_of rows rectangles) in
      rw (leaves_before v.number 0 (length bytes) h, leaves_before v.number 0 (length (plans (fills_of rows rectangles))) h, leaves_before v.number out (over bytes out) h)

  -- and else it writes the joined lists
  pub page_writes : v ≡ bad 0 0
      → page_call rows persistent rectangles out ≡ page_answer (bad 0 0) (joined (fills_of rows rectangles)) (length (plans (fills_of rows rectangles))) out
  unfolding page_call
  page_writes e = ap (λ (x : Bad). page_answer x (joined (fills_of rows rectangles)) (length (plans (fills_of rows rectangles))) out) e

  -- ---- what refuses it, step by step

  -- 2 first, with place 0
  pub rows_first : refuse (leb 1 rows && leb rows 512) 2 0 ≢ 0 → v ≡ bad (refuse (leb 1 rows && leb rows 512) 2 0) 0
  unfolding page_refusal
  rows_first h = bad_first (bad (refuse (leb 1 rows && leb rows 512) 2 0) 0) _ h

  module _ (z : refuse (leb 1 rows && leb rows 512) 2 0 ≡ 0) where
    pub rows_fine : (1 ≤ rows) × (rows ≤ 512)
    rows_fine =
        let b = both (leb 1 rows) (leb rows 512) (refuse_zero (leb 1 rows && leb rows 512) 1 0 z).0 in
        (leb-true 1 rows b.0, leb-true rows 512 b.1)

    -- then the fields, and then 13 and 15
    pub rows_later : v ≡ judged rows persistent (Some (length out)) 0 (items rectangles)
    unfolding page_refusal judged
    rows_later =
        bad_later (bad (refuse (leb 1 rows && leb rows 512) 2 0) 0) _ z
        ∙ ap (λ (n : ℕ). first_bad (verdict rows 0 (items rectangles)) (bad (refuse (eqb persistent 0) 13 n) 0))
        (sym (room_short (length out) (length (joined (fills_of rows rectangles)))))

  -- where nothing is refused: no field is, the mask is not persistent, and there is room
  pub record Accepted : Type 0 where
    pub least : 1 ≤ rows
    pub most : rows ≤ 512
    pub fields : (verdict rows 0 (items rectangles)).number ≡ 0
    pub plain : persistent ≡ 0
    pub room : length (joined (fills_of rows rectangles)) ≤ length out

  later : Bad
  later = bad (refuse (eqb persistent 0) 13 (refuse (leb (length (joined (fills_of rows rectangles))) (length out)) 15 0)) 0

  pub accepted : v.number ≡ 0 → Accepted
  unfolding page_refusal later
  accepted h =
      let n = length (joined (fills_of rows rectangles)) in
      let a = bad_zero (bad (refuse (leb 1 rows && leb rows 512) 2 0) 0) (first_bad (verdict rows 0 (items rectangles)) later) h in
      let r = rows_fine a.0 in
      let b = bad_zero (verdict rows 0 (items rectangles)) later a.1 in
      let c = refuse_zero (eqb persistent 0) 12 (refuse (leb n (length out)) 15 0) b.1 in
      let d = refuse_zero (leb n (length out)) 14 0 c.1 in
      record { least = r.0; most = r.1; fields = b.0; plain = eqb-true persistent 0 c.0; room = leb-true n (length out) d.0 }

  -- and back: it is then answered with 0 and 0
  pub accepted_zeros : Accepted → v ≡ bad 0 0
  unfolding page_refusal
  accepted_zeros a =
      let n = length (joined (fills_of rows rectangles)) in
      bad_later (bad (refuse (leb 1 rows && leb rows 512) 2 0) 0) _ (rw (le-leb 1 rows a.least, le-leb rows 512 a.most))
      ∙ bad_later (verdict rows 0 (items rectangles)) _ a.fields
      ∙ rw (eq-eqb persistent 0 a.plain, le-leb n (length out) a.room)

  -- ---- what a page that is not refused answers

  module _ (z : (page_call rows persistent rectangles out).answer.number ≡ 0) where
    pub page_done : page_call rows persistent rectangles out
        ≡ page_answer (bad 0 0) (joined (fills_of rows rectangles)) (length (plans (fills_of rows rectangles))) out
    page_done = page_writes (accepted_zeros (accepted (sym page_number ∙ z)))

    -- the bytes written are the joined lists
    pub page_list : list_in (page_call rows persistent rectangles out) ≡ joined (fills_of rows rectangles)
    page_list = ap list_in page_done ∙ take_over (joined (fills_of rows rectangles)) out

    -- it counts: the cycles answered are the list's fields, and the bytes answered its length
    pub page_counts : ((page_call rows persistent rectangles out).answer.cycles ≡ count_of (list_in (page_call rows persistent rectangles out)))
        × ((page_call rows persistent rectangles out).answer.bytes ≡ length (list_in (page_call rows persistent rectangles out)))
    page_counts = (
      ap (λ (o : Outcome). o.answer.cycles) page_done ∙ sym (count_encode_all (plans (fills_of rows rectangles))) ∙ sym (ap count_of page_list),
      ap (λ (o : Outcome). o.answer.bytes) page_done ∙ sym (ap length page_list),
    )

-- ---- no rectangle at all

module _ (rows : ℕ) (out : List ℕ) (least : 1 ≤ rows) (most : rows ≤ 512) where
  nothing : (persistent : ℕ) → page_refusal rows persistent [] (length out) ≡ bad (refuse (eqb persistent 0) 13 0) 0
  unfolding room_number
  nothing persistent =
      rows_later rows persistent [] out (rw (le-leb 1 rows least, le-leb rows 512 most))
      ∙ ap (judged rows persistent (Some (length out)) 0) (items_nil [] (omega arith))
      ∙ judged_nil rows persistent (Some (length out)) 0

  -- gives an empty list
  pub page_empty : page_call rows 0 [] out ≡ outcome (refused 0 0) out
  unfolding fills
  page_empty =
      page_writes rows 0 [] out (nothing 0)
      ∙ ap (λ (fs : List Fill). page_answer (bad 0 0) (joined fs) (length (plans fs)) out) (ap (fills rows) (items_nil [] (omega arith)))
      ∙ ap₂ (λ (l : List ℕ) (n : ℕ). page_answer (bad 0 0) l n out) joined_none (ap length plans_none)

  -- but 13 while persistent
  pub page_empty_13 : (persistent : ℕ) → persistent ≢ 0 → page_call rows persistent [] out ≡ outcome (refused 13 0) out
  page_empty_13 persistent h =
      let e : page_refusal rows persistent [] (length out) ≡ bad 13 0 = nothing persistent ∙ rw (ne_eqb persistent 0 h) in
      page_refuses rows persistent [] out (λ z. omega (arith, ap (λ (w : Bad). w.number) e, z))
      ∙ ap (λ (w : Bad). outcome (refused w.number w.place) out) e

-- ---- a page that says it is not persistent is not refused with 13

last_13 : (t : Bool) (n : ℕ) → n ≢ 12 → refuse t (suc n) 0 ≢ 13
last_13 true n k h = omega arith
last_13 false n k h = k (omega arith)

item_13 : (rows : ℕ) (i : Item) → number_of rows i ≢ 13
unfolding number_of
item_13 rows (Names r) = last_13 (rectangle_ok (fill_of rows r)) 11 (λ h. omega arith)
item_13 rows Unreadable = λ h. omega arith

fields_13 : (rows at : ℕ) (l : List Item) → (verdict rows at l).number ≢ 13
unfolding verdict
fields_13 rows at [] = λ h. omega arith
fields_13 rows at (i ∷ l) = go (eqb (number_of rows i) 0) (fields_13 rows (at + 15) l)
  where
    go : (t : Bool) → (verdict rows (at + 15) l).number ≢ 13 → (cond t (verdict rows (at + 15) l) (bad (number_of rows i) at)).number ≢ 13
    go true ih = ih
    go false ih = item_13 rows i

pub page_13 : (rows : ℕ) (rectangles out : List ℕ) → (page_call rows 0 rectangles out).answer.number ≢ 13
unfolding page_refusal
page_13 rows rectangles out z =
    let n = length (joined (fills_of rows rectangles)) in
    bad_never (bad (refuse (leb 1 rows && leb rows 512) 2 0) 0) (first_bad (verdict rows 0 (items rectangles)) (bad (refuse (leb n (length out)) 15 0) 0)) 13
    (last_13 (leb 1 rows && leb rows 512) 1 (λ h. omega arith))
    (bad_never (verdict rows 0 (items rectangles)) (bad (refuse (leb n (length out)) 15 0) 0) 13 (fields_13 rows 0 (items rectangles))
    (last_13 (leb n (length out)) 14 (λ h. omega arith)))
    (sym (page_number rows 0 rectangles out) ∙ z)
