-- Laws of the verdict and of the cycles of fields. Assumes nothing.
use Rattle.std.specs.Prelude.{◌≡◌, Bool, ◌||◌, List, [], ◌∷◌, ◌≢◌, ◌⊎◌, ℕ, ◌+◌, ◌≤◌, ltb, length, drop}
use Rattle.std.proofs.Math.Path.{refl}
use Rattle.std.proofs.Common.{sym, ap, ◌∙◌, inl, inr, arith, eq-eqb, ne_eqb, eqb-true, ltb-true, ltb-false}
use Rattle.std.proofs.Math.Bool.{true, false}
use Rattle.std.proofs.Math.Dec.{eqb}
use Rattle.refusals.specs.Refusal.{refusing}
use Rattle.vram.specs.declared.Cycle.{Cycle}
use Rattle.vram.specs.Refusal.{refusal}
use Rattle.vram.specs.Kinds.{loads}
use Rattle.list.specs.Meaning.{Bad}
use Rattle.vram.proofs.CaseLaws.{refusal_range}
use Rattle.list.specs.Tags.{len_of, cycle_of}
use Rattle.list.specs.TagLaws.{cycle_loads}
use Rattle.list.specs.Fields.{Field, Reads, Unreadable, tag, body, whole, field_of, size_of}
use Rattle.list.proofs.FieldLaws.{whole_known, field_whole, field_not, fields_nil, fields_whole, fields_not}
use Rattle.list.specs.Meaning.{number_of, made_by, bad, verdict, cycles, cycles_of}

-- ---- a field, by its kind

module _ (c : Cycle) (n : ℕ) where
  pub number_reads : (rows : ℕ) (made : Bool) → number_of rows made (Reads c n) ≡ refusal rows made c
  unfolding number_of
  number_reads rows made = refl

  pub made_reads : (made : Bool) → made_by (Reads c n) made ≡ loads c made
  unfolding made_by
  made_reads made = refl

  pub cycles_reads : (fs : List Field) → cycles (Reads c n ∷ fs) ≡ c ∷ cycles fs
  unfolding cycles
  cycles_reads fs = refl

pub number_unreadable : (rows : ℕ) (made : Bool) → number_of rows made Unreadable ≡ 4
unfolding number_of
number_unreadable rows made = refl

pub cycles_none : cycles [] ≡ []
unfolding cycles
cycles_none = refl

-- ---- a whole field

module _ (s : List ℕ) (h : whole s ≡ true) where
  pub size_whole : size_of (field_of s) ≡ 3 + len_of (tag s)
  unfolding size_of
  size_whole = rw (field_whole s h)

  pub number_whole : (rows : ℕ) (made : Bool) → number_of rows made (field_of s) ≡ refusal rows made (cycle_of (tag s) (body s))
  unfolding number_of
  number_whole rows made = rw (field_whole s h)

  pub made_whole : (made : Bool) → made_by (field_of s) made ≡ (made || eqb (tag s) 6)
  unfolding made_by
  made_whole made = rw (field_whole s h) (cycle_loads (tag s) (body s) made (whole_known s h))

  pub cycles_whole : cycles_of s ≡ cycle_of (tag s) (body s) ∷ cycles_of (drop (3 + len_of (tag s)) s)
  unfolding cycles
  cycles_whole = rw (fields_whole s h, field_whole s h)

pub number_not : (s : List ℕ) → whole s ≡ false → (rows : ℕ) (made : Bool) → number_of rows made (field_of s) ≡ 4
unfolding number_of
number_not s h rows made = rw (field_not s h)

-- what refuses a field is 4, or one of the numbers that refuse a cycle
pub number_range : (rows : ℕ) (made : Bool) (f : Field) → number_of rows made f ≢ 0
    → (number_of rows made f ≡ 4) ⊎ (refusing (number_of rows made f) ≡ true)
unfolding number_of
number_range rows made (Reads c n) h = inr (refusal_range rows made c h)
number_range rows made Unreadable h = inl refl

-- an accepted field is whole
pub accepted_whole : (s : List ℕ) (rows : ℕ) (made : Bool) → number_of rows made (field_of s) ≡ 0 → whole s ≡ true
accepted_whole s rows made z = go (whole s) refl
  where
    go : (t : Bool) → whole s ≡ t → t ≡ true
    go true q = refl
    go false q = absurd (omega (arith, number_not s q rows made, z))

pub cycles_nil : (s : List ℕ) → length s ≤ 0 → cycles_of s ≡ []
unfolding cycles
cycles_nil s h = rw (fields_nil s h)

-- bytes that begin with no whole field have none
pub cycles_not : (s : List ℕ) → whole s ≡ false → cycles_of s ≡ []
unfolding cycles
cycles_not s h = go (ltb 0 (length s)) refl
  where
    go : (t : Bool) → ltb 0 (length s) ≡ t → cycles_of s ≡ []
    go true e = rw (fields_not s (ltb-true 0 (length s) e) h)
    go false e = cycles_nil s (ltb-false 0 (length s) e)

-- ---- the verdict, field by field

pub verdict_nil : (rows : ℕ) (made : Bool) (at : ℕ) → verdict rows made at [] ≡ bad 0 0
unfolding verdict
verdict_nil rows made at = refl

module _ (rows : ℕ) (made : Bool) (at : ℕ) (f : Field) (fs : List Field) where
  pub verdict_good : number_of rows made f ≡ 0 → verdict rows made at (f ∷ fs) ≡ verdict rows (made_by f made) (at + size_of f) fs
  unfolding verdict
  verdict_good h = rw (eq-eqb (number_of rows made f) 0 h)

  pub verdict_bad : number_of rows made f ≢ 0 → verdict rows made at (f ∷ fs) ≡ bad (number_of rows made f) at
  unfolding verdict
  verdict_bad h = rw (ne_eqb (number_of rows made f) 0 h)

  -- where fields are accepted the first is, and so are those after it
  module _ (h : (verdict rows made at (f ∷ fs)).number ≡ 0) where
    pub accepted_head : number_of rows made f ≡ 0
    unfolding verdict
    accepted_head = go (eqb (number_of rows made f) 0) refl
      where
        go : (t : Bool) → eqb (number_of rows made f) 0 ≡ t → number_of rows made f ≡ 0
        go true q = eqb-true _ _ q
        go false q = rw q at h

    pub accepted_tail : (verdict rows (made_by f made) (at + size_of f) fs).number ≡ 0
    accepted_tail = sym (ap (λ (v : Bad). v.number) (verdict_good accepted_head)) ∙ h
