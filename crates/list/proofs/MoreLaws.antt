-- More bytes after a list with a refused field: they change nothing, unless that field waits for them. Assumes nothing.
use Rattle.std.specs.Prelude.{◌≡◌, refl, Bool, true, false, List, [], ◌∷◌, ◌++◌, ◌≢◌, ℕ, zero, suc, ◌+◌, ◌-◌, ◌≤◌, ◌<◌, eqb, length, drop}
use Rattle.std.proofs.Common.{sym, ap, ap₂, ◌∙◌, arith, length-append, length-drop, drop-drop, eqb-true}
use Rattle.std.proofs.lemmas.List.{drop-append-le}
use Rattle.std.proofs.lemmas.Bool.{eqb-false}
use Rattle.vram.specs.Board.{Board}
use Rattle.vram.specs.Step.{given_of, rows_of}
use Rattle.list.specs.Meaning.{Bad}
use Rattle.list.specs.Tags.{len_of}
use Rattle.list.specs.Fields.{Field, Unreadable, tag, whole, field_of, size_of, fields}
use Rattle.list.proofs.FieldLaws.{tag_append, whole_length, whole_append, field_append, fields_nil, fields_whole, fields_not}
use Rattle.list.specs.Meaning.{number_of, made_by, bad, verdict, verdict_of}
use Rattle.list.proofs.VerdictLaws.{size_whole, verdict_nil, verdict_good, verdict_bad}
use Rattle.list.proofs.CallLaws.{verdict_given, verdict_fields}
use Rattle.list.specs.Waits.{waits}
use Rattle.list.proofs.WaitsLaws.{settled_whole}

-- a refused field does not stand before the first
pub place_least : (rows : ℕ) (made : Bool) (at : ℕ) (fs : List Field) → (verdict rows made at fs).number ≢ 0 → at ≤ (verdict rows made at fs).place
place_least rows made at [] h = absurd (h (ap (λ (v : Bad). v.number) (verdict_nil rows made at)))
place_least rows made at (f ∷ fs) h = go (eqb (number_of rows made f) 0) refl (place_least rows (made_by f made) (at + size_of f) fs)
  where
    go : (t : Bool) → eqb (number_of rows made f) 0 ≡ t
        → ((verdict rows (made_by f made) (at + size_of f) fs).number ≢ 0 → at + size_of f ≤ (verdict rows (made_by f made) (at + size_of f) fs).place)
        → at ≤ (verdict rows made at (f ∷ fs)).place
    go true q ih =
        let e = verdict_good rows made at f fs (eqb-true _ _ q) in
        let k = ih (λ z. h (ap (λ (v : Bad). v.number) e ∙ z)) in
        rw e (omega arith)
    go false q ih = rw (verdict_bad rows made at f fs (eqb-false _ _ q)) (omega arith)

unreadable : (rows : ℕ) (made : Bool) (at : ℕ) → verdict rows made at (Unreadable ∷ []) ≡ bad 4 at
unfolding number_of verdict
unreadable rows made at = refl

-- the refused field of s is not one that more bytes may yet make
abbrev Settled : Bad → ℕ → List ℕ → Type 0
Settled v at s = v.number ≡ 4 → waits (drop (v.place - at) s) ≡ false

-- the first field, if it is so for what follows it
module _ (rows : ℕ) (t : List ℕ) (made : Bool) (at : ℕ) (s : List ℕ) (h : (verdict rows made at (fields s)).number ≢ 0)
    (k : Settled (verdict rows made at (fields s)) at s)
    (rest : whole s ≡ true → (m : Bool) (a : ℕ) → let r = drop (3 + len_of (tag s)) s in let v = verdict rows m a (fields r) in
    v.number ≢ 0 → Settled v a r → verdict rows m a (fields (r ++ t)) ≡ v) where
  module _ (w : whole s ≡ true) where
    abbrev r : List ℕ
    r = drop (3 + len_of (tag s)) s

    after : fields (s ++ t) ≡ field_of s ∷ fields (r ++ t)
    after =
        let l = whole_length s w in
        fields_whole (s ++ t) (whole_append s t w)
        ∙ ap₂ (λ (f : Field) (l : List ℕ). f ∷ fields l) (field_append s t w)
        (ap (λ (n : ℕ). drop (3 + len_of n) (s ++ t)) (tag_append s t (omega arith)) ∙ drop-append-le (3 + len_of (tag s)) s t l)

    first : (u : Bool) → eqb (number_of rows made (field_of s)) 0 ≡ u → verdict rows made at (fields (s ++ t)) ≡ verdict rows made at (fields s)
    first false q =
        let n = eqb-false _ _ q in
        ap (verdict rows made at) after
        ∙ verdict_bad rows made at (field_of s) (fields (r ++ t)) n
        ∙ sym (ap (verdict rows made at) (fields_whole s w) ∙ verdict_bad rows made at (field_of s) (fields r) n)
    first true q =
        let z = eqb-true _ _ q in
        let m = made_by (field_of s) made in
        let a = at + size_of (field_of s) in
        let v = verdict rows m a (fields r) in
        let e : verdict rows made at (fields s) ≡ v = ap (verdict rows made at) (fields_whole s w) ∙ verdict_good rows made at (field_of s) (fields r) z in
        let n : v.number ≢ 0 = λ y. h (ap (λ (x : Bad). x.number) e ∙ y) in
        let p : 3 + len_of (tag s) + (v.place - a) ≡ (verdict rows made at (fields s)).place - at
        = omega (arith, ap (λ (x : Bad). x.place) e, place_least rows m a (fields r) n, size_whole s w) in
        let y : Settled v a r
        = λ four. ap waits (drop-drop (v.place - a) (3 + len_of (tag s)) s ∙ ap (λ (i : ℕ). drop i s) p) ∙ k (ap (λ (x : Bad). x.number) e ∙ four) in
        ap (verdict rows made at) after
        ∙ verdict_good rows made at (field_of s) (fields (r ++ t)) z
        ∙ rest w m a n y
        ∙ sym e

  broken : 0 < length s → whole s ≡ false → verdict rows made at (fields (s ++ t)) ≡ verdict rows made at (fields s)
  broken p w =
      let e : verdict rows made at (fields s) ≡ bad 4 at = ap (verdict rows made at) (fields_not s p w) ∙ unreadable rows made at in
      let z : (verdict rows made at (fields s)).place - at ≡ 0 = omega (arith, ap (λ (x : Bad). x.place) e) in
      let y : waits s ≡ false = sym (ap (λ (i : ℕ). waits (drop i s)) z) ∙ k (ap (λ (x : Bad). x.number) e) in
      ap (verdict rows made at) (fields_not (s ++ t) (simp length-append (omega arith)) (settled_whole s t y ∙ w) ∙ sym (fields_not s p w))

  more_first : (u : Bool) → eqb (length s) 0 ≡ u → (v : Bool) → whole s ≡ v → verdict rows made at (fields (s ++ t)) ≡ verdict rows made at (fields s)
  more_first true q v w =
      absurd (h (ap (λ (x : Bad). x.number) (ap (verdict rows made at) (fields_nil s (omega (arith, eqb-true (length s) 0 q))) ∙ verdict_nil rows made at)))
  more_first false q true w = first w (eqb (number_of rows made (field_of s)) 0) refl
  more_first false q false w = let n : length s ≡ 0 → ⊥ = eqb-false _ _ q in broken (omega arith) w

more : (rows : ℕ) (t : List ℕ) (n : ℕ) (made : Bool) (at : ℕ) (s : List ℕ) → length s ≤ n → let v = verdict rows made at (fields s) in
    v.number ≢ 0 → Settled v at s → verdict rows made at (fields (s ++ t)) ≡ v
more rows t zero made at s l h k =
    absurd (h (ap (λ (x : Bad). x.number) (ap (verdict rows made at) (fields_nil s l) ∙ verdict_nil rows made at)))
more rows t (suc n) made at s l h k =
    more_first rows t made at s h k
    (λ w m a. more rows t n m a (drop (3 + len_of (tag s)) s) (omega (arith, whole_length s w, length-drop (3 + len_of (tag s)) s)))
    (eqb (length s) 0) refl (whole s) refl

-- ---- a list with a refused field, then another: refused as the first is, where that is not with 4 for a field that waits for more bytes

module _ (a b : List ℕ) (x : Board) where
  abbrev refused : Bad
  refused = verdict (rows_of x) x.state.loaded 0 (fields a)

  pub joined_refused : refused.number ≢ 0 → (refused.number ≡ 4 → waits (drop refused.place a) ≡ false) → verdict_of (a ++ b) x ≡ verdict_of a x
  joined_refused h k = go (eqb (given_of x) 0) refl
    where
      e : verdict (rows_of x) x.state.loaded 0 (fields (a ++ b)) ≡ refused
      e =
          let z : refused.place - 0 ≡ refused.place = omega arith in
          more (rows_of x) b (length a) x.state.loaded 0 a (omega arith) h (λ four. ap (λ (i : ℕ). waits (drop i a)) z ∙ k four)

      go : (t : Bool) → eqb (given_of x) 0 ≡ t → verdict_of (a ++ b) x ≡ verdict_of a x
      go true q =
          let g = eqb-true _ _ q in
          verdict_fields (a ++ b) x g (λ z. h (sym (ap (λ (v : Bad). v.number) e) ∙ z)) ∙ e ∙ sym (verdict_fields a x g h)
      go false q = let g = eqb-false _ _ q in verdict_given (a ++ b) x g ∙ sym (verdict_given a x g)
