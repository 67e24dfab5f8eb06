-- The fields before the refused one are those of the bytes before its place. Assumes nothing.
use Rattle.std.specs.Prelude.{◌≡◌, refl, Bool, true, false, List, [], ◌∷◌, ◌++◌, ◌≢◌, ℕ, zero, suc, ◌+◌, ◌-◌, ◌≤◌, ◌<◌, eqb, length, take, drop}
use Rattle.std.proofs.Common.{sym, ap, ap₂, ◌∙◌, arith, length-take, length-drop, take-append-drop, take-add, drop_at, eqb-true, eq-eqb, ne_eqb}
use Rattle.std.proofs.lemmas.Bool.{eqb-false}
use Rattle.list.specs.Meaning.{Bad}
use Rattle.list.specs.Tags.{len_of}
use Rattle.list.specs.Fields.{Field, Unreadable, tag, whole, field_of, fields}
use Rattle.list.proofs.FieldLaws.{tag_append, whole_length, field_not, fields_nil, fields_whole, fields_not}
use Rattle.list.specs.Meaning.{number_of, made_by, bad, verdict}
use Rattle.list.proofs.VerdictLaws.{size_whole, number_not, verdict_nil, verdict_good, verdict_bad}
use Rattle.list.proofs.MoreLaws.{place_least}
use Rattle.list.specs.Waits.{waits}
use Rattle.list.proofs.WaitsLaws.{settled_whole, settled_append, waits_less}
use Rattle.pieces.specs.Meant.{passing}

-- ---- the first field stays what it is where bytes after it are left out

module _ (s : List ℕ) (w : whole s ≡ true) (k : ℕ) where
  abbrev size : ℕ
  size = 3 + len_of (tag s)

  abbrev front : List ℕ
  front = take (size + k) s

  abbrev back : List ℕ
  back = drop (size + k) s

  joined : front ++ back ≡ s
  joined = take-append-drop (size + k) s

  long : size ≤ length front
  long = omega (arith, whole_length s w, length-take (size + k) s)

  settled : waits front ≡ false
  settled = go (waits front) refl
    where
      go : (t : Bool) → waits front ≡ t → t ≡ false
      go true e = absurd (omega (arith, long, waits_less front back e, ap (λ (x : List ℕ). 3 + len_of (tag x)) joined))
      go false e = refl

  same_tag : tag front ≡ tag s
  same_tag = sym (tag_append front back (omega (arith, long))) ∙ ap tag joined

  rest : drop size front ≡ take k (drop size s)
  rest = ap (drop size) (take-add size k s) ∙ drop_at (take size s) (take k (drop size s)) size (omega (arith, whole_length s w, length-take size s))

  first_kept : fields front ≡ field_of s ∷ fields (take k (drop size s))
  first_kept =
      fields_whole front (sym (settled_whole front back settled) ∙ ap whole joined ∙ w)
      ∙ ap₂ (λ (f : Field) (r : List ℕ). f ∷ fields r) (sym (settled_append front back settled) ∙ ap field_of joined)
      (ap (λ (n : ℕ). drop (3 + len_of n) front) same_tag ∙ rest)

-- ---- the fields, one by one

module _ (rows : ℕ) (made : Bool) (f : Field) (fs : List Field) where
  passing_good : number_of rows made f ≡ 0 → passing rows made (f ∷ fs) ≡ f ∷ passing rows (made_by f made) fs
  unfolding passing
  passing_good z = rw (eq-eqb (number_of rows made f) 0 z)

  passing_bad : number_of rows made f ≢ 0 → passing rows made (f ∷ fs) ≡ []
  unfolding passing
  passing_bad n = rw (ne_eqb (number_of rows made f) 0 n)

abbrev Before : ℕ → Bool → ℕ → List ℕ → Type 0
Before rows made at s =
    let v = verdict rows made at (fields s) in v.number ≢ 0 → fields (take (v.place - at) s) ≡ passing rows made (fields s)

-- the first is refused
refused_first : (rows : ℕ) (made : Bool) (at : ℕ) (s : List ℕ) (f : Field) (fs : List Field) → fields s ≡ f ∷ fs → number_of rows made f ≢ 0 → Before rows made at s
refused_first rows made at s f fs e n h =
    let v : verdict rows made at (fields s) ≡ bad (number_of rows made f) at = ap (verdict rows made at) e ∙ verdict_bad rows made at f fs n in
    let z : (verdict rows made at (fields s)).place - at ≡ 0 = omega (arith, ap (λ (x : Bad). x.place) v) in
    ap (λ (i : ℕ). fields (take i s)) z ∙ fields_nil [] (omega arith) ∙ sym (ap (passing rows made) e ∙ passing_bad rows made f fs n)

-- the first passes, if it is so for what follows it
passed_first : (rows : ℕ) (made : Bool) (at : ℕ) (s : List ℕ) (w : whole s ≡ true) → number_of rows made (field_of s) ≡ 0
    → Before rows (made_by (field_of s) made) (at + (3 + len_of (tag s))) (drop (3 + len_of (tag s)) s) → Before rows made at s
passed_first rows made at s w z ih h =
    let size = 3 + len_of (tag s) in
    let r = drop size s in
    let m = made_by (field_of s) made in
    let v : verdict rows made at (fields s) ≡ verdict rows m (at + size) (fields r)
    = ap (verdict rows made at) (fields_whole s w)
    ∙ verdict_good rows made at (field_of s) (fields r) z
    ∙ ap (λ (i : ℕ). verdict rows m (at + i) (fields r)) (size_whole s w) in
    let n : (verdict rows m (at + size) (fields r)).number ≢ 0 = λ y. h (ap (λ (x : Bad). x.number) v ∙ y) in
    let k = (verdict rows m (at + size) (fields r)).place - (at + size) in
    let p : (verdict rows made at (fields s)).place - at ≡ size + k
    = omega (arith, ap (λ (x : Bad). x.place) v, place_least rows m (at + size) (fields r) n) in
    ap (λ (i : ℕ). fields (take i s)) p
    ∙ first_kept s w k
    ∙ ap (λ (fs : List Field). field_of s ∷ fs) (ih n)
    ∙ sym (ap (passing rows made) (fields_whole s w) ∙ passing_good rows made (field_of s) (fields r) z)

module _ (rows : ℕ) (made : Bool) (at : ℕ) (s : List ℕ)
    (ih : whole s ≡ true → (m : Bool) (a : ℕ) → Before rows m a (drop (3 + len_of (tag s)) s)) where
  some : 0 < length s → (u : Bool) → whole s ≡ u → (t : Bool) → eqb (number_of rows made (field_of s)) 0 ≡ t → Before rows made at s
  some p true w true q = passed_first rows made at s w (eqb-true _ _ q) (ih w (made_by (field_of s) made) (at + (3 + len_of (tag s))))
  some p true w false q = refused_first rows made at s (field_of s) (fields (drop (3 + len_of (tag s)) s)) (fields_whole s w) (eqb-false _ _ q)
  some p false w t q =
      let n : number_of rows made Unreadable ≡ 4 = ap (number_of rows made) (sym (field_not s w)) ∙ number_not s w rows made in
      refused_first rows made at s Unreadable [] (fields_not s p w) (λ z. omega (arith, n, z))

  first : (t : Bool) → eqb (length s) 0 ≡ t → Before rows made at s
  first true q h =
      absurd (h (ap (λ (v : Bad). v.number) (ap (verdict rows made at) (fields_nil s (omega (arith, eqb-true (length s) 0 q))) ∙ verdict_nil rows made at)))
  first false q h = let n : length s ≢ 0 = eqb-false _ _ q in some (omega arith) (whole s) refl (eqb (number_of rows made (field_of s)) 0) refl h

places : (n rows : ℕ) (made : Bool) (at : ℕ) (s : List ℕ) → length s ≤ n → Before rows made at s
places zero rows made at s l h = absurd (h (ap (λ (v : Bad). v.number) (ap (verdict rows made at) (fields_nil s l) ∙ verdict_nil rows made at)))
places (suc n) rows made at s l h =
    first rows made at s
    (λ w m a. places n rows m a (drop (3 + len_of (tag s)) s) (omega (arith, whole_length s w, length-drop (3 + len_of (tag s)) s)))
    (eqb (length s) 0) refl h

pub place_passing : (rows : ℕ) (made : Bool) (s : List ℕ)
    → (let v = verdict rows made 0 (fields s) in v.number ≢ 0 → fields (take v.place s) ≡ passing rows made (fields s))
place_passing rows made s h =
    let z : (verdict rows made 0 (fields s)).place - 0 ≡ (verdict rows made 0 (fields s)).place = omega arith in
    ap (λ (i : ℕ). fields (take i s)) (sym z) ∙ places (length s) rows made 0 s (omega arith) h
