-- Which numbers a list is refused with: none is over 20, no place lies past the list, and when 20 is given. Assumes nothing.
use Rattle.std.specs.Prelude.{◌≡◌, refl, Bool, true, false, List, [], ◌∷◌, ◌≢◌, ℕ, zero, suc, ◌+◌, ◌≤◌, ◌<◌, eqb, length, drop}
use Rattle.std.proofs.Common.{sym, ap, ◌∙◌, ⊎_elim, arith, length-drop, eqb-true}
use Rattle.std.proofs.lemmas.Bool.{eqb-false}
use Rattle.refusals.specs.Refusal.{highest}
use Rattle.refusals.specs.RefusalLaws.{refusing_most}
use Rattle.vram.specs.Board.{Board}
use Rattle.vram.specs.Step.{given_of, rows_of}
use Rattle.vram.specs.RefusalLaws.{given_most}
use Rattle.list.specs.Meaning.{Bad}
use Rattle.std.specs.Prelude.{Option}
use Rattle.std.specs.Prelude.Option.{None, Some}
use Rattle.list.specs.Tags.{len_of}
use Rattle.list.specs.Fields.{Field, Unreadable, tag, whole, field_of, size_of, fields}
use Rattle.list.proofs.FieldLaws.{whole_length, fields_nil, fields_whole, fields_not}
use Rattle.list.specs.Open.{open_of}
use Rattle.list.proofs.OpenLaws.{open_most}
use Rattle.list.specs.Meaning.{number_of, made_by, bad, verdict, readable, left_behind, verdict_of}
use Rattle.list.proofs.JudgeLaws.{left_none, left_at}
use Rattle.list.proofs.CountLaws.{sizes_all}
use Rattle.list.proofs.PerformLaws.{Passes}
use Rattle.list.proofs.CallLaws.{accepted_readable, verdict_given, verdict_fields, verdict_left}
use Rattle.list.proofs.VerdictLaws.{size_whole, number_unreadable, number_range, verdict_nil, verdict_good, verdict_bad}

-- ---- no number is over the highest

number_most : (rows : ℕ) (made : Bool) (f : Field) → number_of rows made f ≤ highest
number_most rows made f = go (eqb (number_of rows made f) 0) refl
  where
    go : (t : Bool) → eqb (number_of rows made f) 0 ≡ t → number_of rows made f ≤ highest
    go true e = let z : number_of rows made f ≡ 0 = eqb-true _ _ e in omega arith
    go false e = ⊎_elim (λ z. omega (arith, z)) (refusing_most (number_of rows made f)) (number_range rows made f (eqb-false _ _ e))

pub verdict_most : (rows : ℕ) (made : Bool) (at : ℕ) (fs : List Field) → (verdict rows made at fs).number ≤ highest
verdict_most rows made at [] = rw (verdict_nil rows made at) (omega arith)
verdict_most rows made at (f ∷ fs) = go (eqb (number_of rows made f) 0) refl (verdict_most rows (made_by f made) (at + size_of f) fs)
  where
    go : (t : Bool) → eqb (number_of rows made f) 0 ≡ t → (verdict rows (made_by f made) (at + size_of f) fs).number ≤ highest → (verdict rows made at (f ∷ fs)).number ≤ highest
    go true e later = rw (verdict_good rows made at f fs (eqb-true _ _ e)) later
    go false e later = rw (verdict_bad rows made at f fs (eqb-false _ _ e)) (number_most rows made f)

-- ---- the place lies in the list

-- if it does for what follows the first field
module _ (rows : ℕ) (made : Bool) (at : ℕ) (s : List ℕ)
    (rest : whole s ≡ true → (m : Bool) (a : ℕ) → (verdict rows m a (fields (drop (3 + len_of (tag s)) s))).place ≤ a + length (drop (3 + len_of (tag s)) s)) where
  first : whole s ≡ true → (t : Bool) → eqb (number_of rows made (field_of s)) 0 ≡ t
      → (verdict rows made at (field_of s ∷ fields (drop (3 + len_of (tag s)) s))).place ≤ at + length s
  first w true e =
      let l : 3 + len_of (tag s) ≤ length s = whole_length s w in
      let d : length (drop (3 + len_of (tag s)) s) + (3 + len_of (tag s)) ≡ length s = simp length-drop (omega arith) in
      let m = rest w (made_by (field_of s) made) (at + (3 + len_of (tag s))) in
      rw (verdict_good rows made at (field_of s) (fields (drop (3 + len_of (tag s)) s)) (eqb-true _ _ e), size_whole s w) (omega arith)
  first w false e = rw (verdict_bad rows made at (field_of s) (fields (drop (3 + len_of (tag s)) s)) (eqb-false _ _ e)) (omega arith)

  some : 0 < length s → (t : Bool) → whole s ≡ t → (verdict rows made at (fields s)).place ≤ at + length s
  some p true w = rw (fields_whole s w) (first w (eqb (number_of rows made (field_of s)) 0) refl)
  some p false w =
      let n : number_of rows made Unreadable ≢ 0 = λ z. omega (arith, number_unreadable rows made) in
      rw (fields_not s p w, verdict_bad rows made at Unreadable [] n) (omega arith)

  place_first : (t : Bool) → eqb (length s) 0 ≡ t → (verdict rows made at (fields s)).place ≤ at + length s
  place_first true e = rw (fields_nil s (omega (arith, eqb-true (length s) 0 e)), verdict_nil rows made at) (omega arith)
  place_first false e =
      let p : length s ≡ 0 → ⊥ = eqb-false _ _ e in
      some (omega arith) (whole s) refl

place_in : (n rows : ℕ) (made : Bool) (at : ℕ) (s : List ℕ) → length s ≤ n → (verdict rows made at (fields s)).place ≤ at + length s
place_in zero rows made at s h = rw (fields_nil s h, verdict_nil rows made at) (omega arith)
place_in (suc n) rows made at s h =
    place_first rows made at s
    (λ w m a. place_in n rows m a (drop (3 + len_of (tag s)) s) (omega (arith, whole_length s w, length-drop (3 + len_of (tag s)) s)))
    (eqb (length s) 0) refl

-- ---- the call

-- the open mask load's offset too
left_in : (list : List ℕ) → readable (fields list) ≡ true → (left_behind (open_of list)).place ≤ length list
left_in list r = open_most (length list) 0 (fields list) None (omega (arith, sizes_all list r)) (rw left_none (omega arith))

left_most : (left : Option ℕ) → (left_behind left).number ≤ 20
left_most None = rw left_none (omega arith)
left_most (Some place) = rw (left_at place) (omega arith)

pub call_most : (list : List ℕ) (b : Board) → ((verdict_of list b).number ≤ 20) × ((verdict_of list b).place ≤ length list)
call_most list b = go (eqb (given_of b) 0) refl (eqb fields_in.number 0) refl
  where
    fields_in : Bad
    fields_in = verdict (rows_of b) b.state.loaded 0 (fields list)

    go : (t : Bool) → eqb (given_of b) 0 ≡ t → (u : Bool) → eqb fields_in.number 0 ≡ u → ((verdict_of list b).number ≤ 20) × ((verdict_of list b).place ≤ length list)
    go false e u f =
        let m = given_most b.state (length b.memory) (length b.serial) in
        rw (verdict_given list b (eqb-false _ _ e)) (omega arith, omega arith)
    go true e false f =
        let p = place_in (length list) (rows_of b) b.state.loaded 0 list (omega arith) in
        let m = verdict_most (rows_of b) b.state.loaded 0 (fields list) in
        rw (verdict_fields list b (eqb-true _ _ e) (eqb-false _ _ f)) (omega arith, omega arith)
    go true e true f =
        let z = eqb-true _ _ f in
        rw (verdict_left list b (eqb-true _ _ e) z)
        (left_most (open_of list), left_in list (accepted_readable (rows_of b) b.state.loaded 0 (fields list) z))

-- ---- 20 is given where, and only where, all else passes and a mask load is left open; the place is its offset

opened : (left : Option ℕ) → (left_behind left).number ≡ 20 → left ≡ Some (left_behind left).place
unfolding left_behind
opened None e = absurd (omega arith)
opened (Some place) e = refl

module _ (list : List ℕ) (b : Board) where
  pub left_refused : Passes 0 (fields list) b → (place : ℕ) → open_of list ≡ Some place → verdict_of list b ≡ bad 20 place
  left_refused a place e = verdict_left list b a.given a.none ∙ ap left_behind e ∙ left_at place

  pub refused_left : (verdict_of list b).number ≡ 20 → Passes 0 (fields list) b × (open_of list ≡ Some (verdict_of list b).place)
  refused_left h = go (eqb (given_of b) 0) refl (eqb (verdict (rows_of b) b.state.loaded 0 (fields list)).number 0) refl
    where
      go : (t : Bool) → eqb (given_of b) 0 ≡ t → (u : Bool) → eqb (verdict (rows_of b) b.state.loaded 0 (fields list)).number 0 ≡ u
          → Passes 0 (fields list) b × (open_of list ≡ Some (verdict_of list b).place)
      go false e u f =
          let v = ap (λ (w : Bad). w.number) (verdict_given list b (eqb-false _ _ e)) in
          absurd (omega (arith, given_most b.state (length b.memory) (length b.serial), v, h))
      go true e false f =
          let v = ap (λ (w : Bad). w.number) (verdict_fields list b (eqb-true _ _ e) (eqb-false _ _ f)) in
          absurd (omega (arith, verdict_most (rows_of b) b.state.loaded 0 (fields list), v, h))
      go true e true f =
          let v = verdict_left list b (eqb-true _ _ e) (eqb-true _ _ f) in (
            record { given = eqb-true _ _ e; none = eqb-true _ _ f },
            opened (open_of list) (sym (ap (λ (w : Bad). w.number) v) ∙ h) ∙ ap (λ (w : Bad). Some w.place) (sym v),
          )
