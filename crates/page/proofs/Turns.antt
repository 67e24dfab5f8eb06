-- One turn of each loop, in the terms that the code has: s is what is left of the rectangles. Assumes nothing.
use Rattle.std.proofs.Common.{◌≡◌, refl, sym, ap, ap₂, ◌∙◌, true, List, [], ◌∷◌, ◌≢◌, ℕ, ◌+◌, ◌-◌, ◌≤◌, ◌<◌, arith, eqb, ne_eqb, length, take, drop}
use lib.Seq.{sets, length-sets}
use borrow.Rule.Slice.PartMut.{put_mid}
use Rattle.numbers.specs.Refuse.{refuse}
use Rattle.numbers.specs.Buffer.{over}
use Rattle.numbers.specs.BufferLaws.{sets_append, over_sets, tail_part, tail_length, tail_stored}
use Rattle.list.specs.Meaning.{Bad, bad, bad_at}
use Rattle.planner.specs.declared.Filled.{Filled}
use Rattle.planner.specs.Fill.{Fill, plan}
use Rattle.planner.specs.Calls.{asked_refusal, list_of, Outcome, outcome, fill_call}
use Rattle.planner.proofs.CallLaws.{asked_plain, filled, fill_fits}
use Rattle.std.specs.Prelude.{Option}
use Rattle.page.specs.Rectangles.{rectangle_of, Item, Names, body, whole, item_of, items, fill_of}
use Rattle.page.specs.RectangleLaws.{whole_length, item_whole, items_nil, items_whole, items_begin}
use Rattle.page.specs.Rooms.{takes, room_number}
use Rattle.page.specs.Calls.{fills, fills_of, plans, joined, number_of, verdict, judged, measured, outcome as paged, page_answer}
use Rattle.page.proofs.CallLaws.{plans_none, joined_none, joined_more, joined_length, plans_length, measured_number, measured_length, number_whole, accepted_head, accepted_tail, accepted_any, judged_nil, judged_bad, judged_good}

-- ---- what follows the field

module _ (s : List ℕ) where
  pub rest_part : take (length s - 15) (drop 15 s) ≡ drop 15 s
  rest_part = tail_part s 15

  rest_length : length (take (length s - 15) (drop 15 s)) ≡ length s - 15
  rest_length = tail_length s 15

  -- is shorter
  pub rest_less : 15 ≤ length s → length (take (length s - 15) (drop 15 s)) < length s
  rest_less h = omega (arith, rest_length)

  pub rest_within : (total : ℕ) → length s ≤ total → length (take (length s - 15) (drop 15 s)) ≤ total
  rest_within total h = omega (arith, rest_length)

-- ---- the checking loop; k is what the code has of the field, v what the loop yields

module _ (rows : ℕ) (least : 1 ≤ rows) (most : rows ≤ 512) (persistent : ℕ) (left : Option ℕ) (s : List ℕ) where
  pub end_check : length s ≡ 0 → (at : ℕ) → bad (refuse (eqb persistent 0) 13 (room_number left)) 0 ≡ judged rows persistent left at (items s)
  end_check h at = sym (ap (judged rows persistent left at) (items_nil s (omega arith)) ∙ judged_nil rows persistent left at)

  -- v is what is answered of the field, at its offset
  pub turn_bad : 0 < length s → (at : ℕ) (v : Bad) → v ≡ bad_at (measured rows (item_of s)).number at → v.number ≢ 0
      → v ≡ judged rows persistent left at (items s)
  turn_bad p at v e h =
      let b = items_begin s p in
      let n = measured_number rows least most (item_of s) in
      let z : (measured rows (item_of s)).number ≢ 0 = λ z. h (ap (λ (x : Bad). x.number) (e ∙ ap (λ (x : ℕ). bad_at x at) z)) in
      e
      ∙ rw (ne_eqb (measured rows (item_of s)).number 0 z) (ap (λ (x : ℕ). bad x at) n)
      ∙ sym (ap (judged rows persistent left at) b.1 ∙ judged_bad rows persistent left at (item_of s) b.0 (λ y. z (n ∙ y)))

  module _ (k : Filled) (e : k ≡ measured rows (item_of s)) where
    number_is : k.number ≡ number_of rows (item_of s)
    number_is = ap (λ (x : Filled). x.number) e ∙ measured_number rows least most (item_of s)

    module _ (z : k.number ≡ 0) where
      good : whole s ≡ true
      good = number_whole rows s (sym number_is ∙ z)

      pub turn_fits : 15 ≤ length s
      turn_fits = whole_length s good

      pub turn_good : (total : ℕ) → length s ≤ total → (room : Option ℕ) → room ≡ takes left k.bytes
          → judged rows persistent room (total - length (take (length s - 15) (drop 15 s))) (items (take (length s - 15) (drop 15 s)))
          ≡ judged rows persistent left (total - length s) (items s)
      turn_good total l room r =
          let f = turn_fits in
          let n = rest_length s in
          let at = total - length s in
          let a : total - length (take (length s - 15) (drop 15 s)) ≡ at + 15 = omega arith in
          let m = ap (λ (x : Filled). x.number) (sym e) ∙ z in
          ap₂ (judged rows persistent room) a (ap items (rest_part s))
          ∙ ap (λ (x : Option ℕ). judged rows persistent x (at + 15) (items (drop 15 s))) (r ∙ ap (λ (x : Filled). takes left x.bytes) e)
          ∙ sym
          (ap (judged rows persistent left at) (items_whole s good)
          ∙ judged_good rows persistent left at (item_of s) (items (drop 15 s)) (sym number_is ∙ z) (measured rows (item_of s)).bytes
          (measured_length rows least most (item_of s) m (items (drop 15 s))))

-- ---- the writing loop; r and part are what the call of `put_fill` answers and leaves

module _ (rows : ℕ) (least : 1 ≤ rows) (most : rows ≤ 512) (s : List ℕ) (p : 0 < length s) (z : (verdict rows 0 (items s)).number ≡ 0) where
  head_good : number_of rows (item_of s) ≡ 0
  head_good =
      let b = items_begin s p in
      accepted_head rows 0 (item_of s) b.0 (sym (ap (λ (x : List Item). (verdict rows 0 x).number) b.1) ∙ z)

  head_whole : whole s ≡ true
  head_whole = number_whole rows s head_good

  pub put_fits : 15 ≤ length s
  put_fits = whole_length s head_whole

  abbrev f : Fill
  f = fill_of rows (rectangle_of (body s))

  named_good : number_of rows (Names (rectangle_of (body s))) ≡ 0
  named_good = sym (ap (number_of rows) (item_whole s head_whole)) ∙ head_good

  asked : asked_refusal f ≡ 0
  unfolding number_of
  asked = asked_plain f least most refl ∙ named_good

  fills_are : fills_of rows s ≡ f ∷ fills_of rows (drop 15 s)
  unfolding fills
  fills_are = ap (fills rows) (items_whole s head_whole ∙ ap (λ (i : Item). i ∷ items (drop 15 s)) (item_whole s head_whole))

  pub put_accepted : (verdict rows 0 (items (take (length s - 15) (drop 15 s)))).number ≡ 0
  put_accepted =
      ap (λ (l : List ℕ). (verdict rows 0 (items l)).number) (rest_part s)
      ∙ accepted_any rows 15 0 (items (drop 15 s))
      (accepted_tail rows 0 (item_of s) (items (drop 15 s)) (sym (ap (λ (x : List Item). (verdict rows 0 x).number) (items_whole s head_whole)) ∙ z))

  module _ (list part : List ℕ) (at : ℕ) (fits : at + length (joined (fills_of rows s)) ≤ length list) (r : Filled)
      (e : outcome r part ≡ fill_call f (take (length list - at) (drop at list))) where
    bytes_are : length (joined (fills_of rows s)) ≡ length (list_of f) + length (joined (fills_of rows (drop 15 s)))
    bytes_are = ap (λ (fs : List Fill). length (joined fs)) fills_are ∙ joined_length f (fills_of rows (drop 15 s))

    cycles_are : length (plans (fills_of rows s)) ≡ length (plan f) + length (plans (fills_of rows (drop 15 s)))
    cycles_are = ap (λ (fs : List Fill). length (plans fs)) fills_are ∙ plans_length f (fills_of rows (drop 15 s))

    left : length (take (length list - at) (drop at list)) ≡ length list - at
    left = tail_length list at

    done : outcome r part ≡ outcome (filled 0 (length (list_of f)) (length (plan f))) (over (list_of f) (take (length list - at) (drop at list)))
    done = e ∙ fill_fits f (take (length list - at) (drop at list)) asked (omega (arith, left, bytes_are))

    -- it is not refused
    pub put_number : r.number ≡ 0
    put_number = ap (λ (o : Outcome). o.answer.number) done

    put_bytes : r.bytes ≡ length (list_of f)
    put_bytes = ap (λ (o : Outcome). o.answer.bytes) done

    put_cycles : r.cycles ≡ length (plan f)
    put_cycles = ap (λ (o : Outcome). o.answer.cycles) done

    pub put_at : at + r.bytes + length (joined (fills_of rows (take (length s - 15) (drop 15 s)))) ≡ at + length (joined (fills_of rows s))
    put_at = ap (λ (l : List ℕ). at + r.bytes + length (joined (fills_of rows l))) (rest_part s) ∙ omega (arith, put_bytes, bytes_are)

    pub put_count : (n : ℕ) → n + r.cycles + length (plans (fills_of rows (take (length s - 15) (drop 15 s)))) ≡ n + length (plans (fills_of rows s))
    put_count n = ap (λ (l : List ℕ). n + r.cycles + length (plans (fills_of rows l))) (rest_part s) ∙ omega (arith, put_cycles, cycles_are)

    stored : put_mid at (length list - at) list part ≡ sets list at (list_of f)
    stored = tail_stored list part (list_of f) at (omega (arith, bytes_are)) (ap (λ (o : Outcome). o.buffer) done)

    pub put_length : length (put_mid at (length list - at) list part) ≡ length list
    put_length = ap length stored ∙ length-sets list at (list_of f)

    pub put_list : sets (put_mid at (length list - at) list part) (at + r.bytes) (joined (fills_of rows (take (length s - 15) (drop 15 s))))
        ≡ sets list at (joined (fills_of rows s))
    put_list =
        ap₂ (λ (l : List ℕ) (n : ℕ). sets l (at + n) (joined (fills_of rows (take (length s - 15) (drop 15 s))))) stored put_bytes
        ∙ ap (λ (l : List ℕ). sets (sets list at (list_of f)) (at + length (list_of f)) (joined (fills_of rows l))) (rest_part s)
        ∙ sets_append (list_of f) (joined (fills_of rows (drop 15 s))) list at
        ∙ ap (sets list at) (sym (ap joined fills_are ∙ joined_more f (fills_of rows (drop 15 s))))

-- no rectangle is left: all is stored
pub end_put : (rows : ℕ) (s : List ℕ) → length s ≤ 0 → (all out list : List ℕ) (at cycles : ℕ)
    → length (joined (fills_of rows all)) ≤ length out
    → at + length (joined (fills_of rows s)) ≡ length (joined (fills_of rows all))
    → cycles + length (plans (fills_of rows s)) ≡ length (plans (fills_of rows all))
    → sets list at (joined (fills_of rows s)) ≡ sets out 0 (joined (fills_of rows all))
    → paged (record { number = 0; place = 0; bytes = at; cycles = cycles }) list
    ≡ page_answer (bad 0 0) (joined (fills_of rows all)) (length (plans (fills_of rows all))) out
unfolding fills
end_put rows s h all out list at cycles fits b k l =
    let e : fills_of rows s ≡ [] = ap (fills rows) (items_nil s h) in
    let j : joined (fills_of rows s) ≡ [] = ap joined e ∙ joined_none in
    let n : at ≡ length (joined (fills_of rows all)) = omega (arith, b, ap length j) in
    let m : cycles ≡ length (plans (fills_of rows all)) = omega (arith, k, ap (λ (fs : List Fill). length (plans fs)) e ∙ ap length plans_none) in
    ap₂ (λ (x y : ℕ). paged (record { number = 0; place = 0; bytes = x; cycles = y }) list) n m
    ∙ ap (paged (record { number = 0; place = 0; bytes = length (joined (fills_of rows all)); cycles = length (plans (fills_of rows all)) }))
    (sym (ap (sets list at) j) ∙ l ∙ over_sets (joined (fills_of rows all)) out fits)
