-- Laws of the open mask load. Assumes nothing.
use Rattle.std.specs.Prelude.{◌≡◌, Bool, ◌||◌, cond, ◌≢◌, ◌⊎◌, ℕ, ◌+◌, ◌≤◌, ◌<◌, eqb}
use Rattle.std.proofs.Math.Path.{refl}
use Rattle.std.proofs.Common.{sym, ap, ap₂, ◌∙◌, true≢false, inl, inr, add_assoc, add-zero, ne_eqb, List, [], ◌∷◌, ◌++◌, map, arith}
use Rattle.std.proofs.Math.Bool.{true, false}
use Rattle.vram.specs.declared.Cycle.{Cycle}
use Rattle.vram.specs.declared.Cycle.TheVariants.{LoadColour, LoadMask, ResetRefresh}
use Rattle.vram.specs.Kinds.{tag_of}
use Rattle.vram.proofs.CaseLaws.{tag_colour, tag_mask, tag_reset}
use Rattle.std.specs.Prelude.{Option}
use Rattle.std.specs.Prelude.Option.{None, Some}
use Rattle.list.specs.Fields.{Field, Reads, Unreadable, tag, body, whole, field_of, size_of}
use Rattle.list.proofs.FieldLaws.{whole_known, field_whole}
use Rattle.list.specs.TagLaws.{cycle_tag}
use Rattle.list.specs.Open.{opens, open_by, open_after}
use Rattle.list.specs.Meaning.{left_behind}
use Rattle.list.specs.Joined.{sizes, further_open, decides, decided}

-- ---- each way to leave one open, and each way not to, computed from the definition

-- six bytes, three, and six
abbrev load : Field
load = Reads (LoadMask 0x00FF 3) 3

abbrev reset : Field
reset = Reads ResetRefresh 0

abbrev other : Field
other = Reads (LoadColour 0x00FF 3) 3

abbrev closed : List (List Field)
closed = [] ∷ (other ∷ []) ∷ (reset ∷ []) ∷ (load ∷ reset ∷ []) ∷ (load ∷ load ∷ reset ∷ []) ∷ (load ∷ other ∷ reset ∷ other ∷ []) ∷ []

abbrev still : List (List Field)
still = (load ∷ []) ∷ (load ∷ other ∷ []) ∷ (other ∷ load ∷ []) ∷ (load ∷ load ∷ []) ∷ (reset ∷ load ∷ []) ∷ (load ∷ reset ∷ load ∷ []) ∷ []

pub closed_example : map (λ (fs : List Field). open_after 0 fs None) closed ≡ (None ∷ None ∷ None ∷ None ∷ None ∷ None ∷ [])
unfolding open_after open_by opens size_of
closed_example = simp (tag_mask 0x00FF 3, tag_colour 0x00FF 3, tag_reset)

-- the offset is the last one's
pub open_example : map (λ (fs : List Field). open_after 0 fs None) still ≡ (Some 0 ∷ Some 0 ∷ Some 6 ∷ Some 6 ∷ Some 3 ∷ Some 9 ∷ [])
unfolding open_after open_by opens size_of
open_example = simp (tag_mask 0x00FF 3, tag_colour 0x00FF 3, tag_reset)

-- ---- a field

-- it is the mask load that is open now, and has bytes; or it leaves none open; or what was open
pub open_cases : (at : ℕ) (f : Field) (left : Option ℕ)
    → ((open_by at f left ≡ Some at) × (0 < size_of f)) ⊎ ((open_by at f left ≡ None) ⊎ (open_by at f left ≡ left))
unfolding open_by opens size_of
open_cases at (Reads c n) left = go (eqb (tag_of c) 4) (eqb (tag_of c) 5)
  where
    go : (t u : Bool) → ((cond t (Some at) (cond u None left) ≡ Some at) × (0 < 3 + n)) ⊎ ((cond t (Some at) (cond u None left) ≡ None) ⊎ (cond t (Some at) (cond u None left) ≡ left))
    go true u = inl (refl, omega arith)
    go false true = inr (inl refl)
    go false false = inr (inr refl)
open_cases at Unreadable left = inr (inr refl)

-- ---- field by field

pub open_nil : (at : ℕ) (left : Option ℕ) → open_after at [] left ≡ left
unfolding open_after
open_nil at left = refl

pub open_next : (at : ℕ) (f : Field) (fs : List Field) (left : Option ℕ) → open_after at (f ∷ fs) left ≡ open_after (at + size_of f) fs (open_by at f left)
unfolding open_after
open_next at f fs left = refl

-- a whole field, by its tag
pub open_whole : (s : List ℕ) → whole s ≡ true → (at : ℕ) (left : Option ℕ) → open_by at (field_of s) left ≡ opens (tag s) at left
unfolding open_by
open_whole s h at left = rw (field_whole s h) (ap (λ (t : ℕ). opens t at left) (cycle_tag (tag s) (body s) (whole_known s h)))

-- ---- fields one after the other

pub open_append : (at : ℕ) (fs gs : List Field) (left : Option ℕ) → open_after at (fs ++ gs) left ≡ open_after (at + sizes fs) gs (open_after at fs left)
unfolding open_after sizes
open_append at [] gs left = rw (add-zero at)
open_append at (f ∷ fs) gs left =
    open_append (at + size_of f) fs gs (open_by at f left)
    ∙ ap (λ (n : ℕ). open_after n gs (open_after (at + size_of f) fs (open_by at f left))) (add_assoc at (size_of f) (sizes fs))

-- ---- a mask load and a reset refresh decide, other fields leave it

module _ (at : ℕ) (left : Option ℕ) where
  opens_decides : (p q : Bool) → (p || q) ≡ true → cond p (Some at) (cond q None left) ≡ cond p (Some at) (cond q None None)
  opens_decides true q h = refl
  opens_decides false true h = refl
  opens_decides false false h = absurd (true≢false (sym h))

  opens_other : (p q : Bool) → (p || q) ≡ false → cond p (Some at) (cond q None left) ≡ left
  opens_other true q h = absurd (true≢false h)
  opens_other false true h = absurd (true≢false h)
  opens_other false false h = refl

  pub by_decides : (f : Field) → decides f ≡ true → open_by at f left ≡ open_by at f None
  unfolding open_by opens decides
  by_decides (Reads c n) h = opens_decides (eqb (tag_of c) 4) (eqb (tag_of c) 5) h
  by_decides Unreadable h = absurd (true≢false (sym h))

  pub by_other : (f : Field) → decides f ≡ false → open_by at f left ≡ left
  unfolding open_by opens decides
  by_other (Reads c n) h = opens_other (eqb (tag_of c) 4) (eqb (tag_of c) 5) h
  by_other Unreadable h = refl

-- where none is open, only a mask load opens
pub by_no_load : (at : ℕ) (c : Cycle) (n : ℕ) → tag_of c ≢ 4 → open_by at (Reads c n) None ≡ None
unfolding open_by opens
by_no_load at c n h = rw (ne_eqb (tag_of c) 4 h) (go (eqb (tag_of c) 5))
  where
    go : (q : Bool) → cond {A = Option ℕ} q None None ≡ None
    go true = refl
    go false = refl

-- what fields leave open is their own where one of them decides, and else what was open before them
pub open_from : (at : ℕ) (fs : List Field) (left : Option ℕ) → open_after at fs left ≡ cond (decided fs) (open_after at fs None) left
unfolding open_after decided
open_from at [] left = refl
open_from at (f ∷ fs) left = go (decides f) refl (open_from (at + size_of f) fs left)
  where
    go : (t : Bool) → decides f ≡ t → open_after (at + size_of f) fs left ≡ cond (decided fs) (open_after (at + size_of f) fs None) left
        → open_after (at + size_of f) fs (open_by at f left) ≡ cond (t || decided fs) (open_after (at + size_of f) fs (open_by at f None)) left
    go true q ih = ap (open_after (at + size_of f) fs) (by_decides at left f q)
    go false q ih = rw (by_other at left f q, by_other at None f q) ih

-- ---- what it is: fields among which none decides, or a last that does, and then others

pub open_none : (at : ℕ) (fs : List Field) (left : Option ℕ) → decided fs ≡ false → open_after at fs left ≡ left
open_none at fs left h = open_from at fs left ∙ ap (λ (t : Bool). cond t (open_after at fs None) left) h

module _ (at : ℕ) (fs : List Field) (c : Cycle) (n : ℕ) (gs : List Field) (left : Option ℕ) (h : decided gs ≡ false) where
  last : open_after at (fs ++ Reads c n ∷ gs) left ≡ opens (tag_of c) (at + sizes fs) (open_after at fs left)
  unfolding open_by
  last =
      open_append at fs (Reads c n ∷ gs) left
      ∙ open_next (at + sizes fs) (Reads c n) gs (open_after at fs left)
      ∙ open_none (at + sizes fs + size_of (Reads c n)) gs (opens (tag_of c) (at + sizes fs) (open_after at fs left)) h

  -- a mask load: it is open, from its own offset on
  pub open_load : tag_of c ≡ 4 → open_after at (fs ++ Reads c n ∷ gs) left ≡ Some (at + sizes fs)
  unfolding opens
  open_load e = last ∙ rw e

  -- a reset refresh: none is
  pub open_reset : tag_of c ≡ 5 → open_after at (fs ++ Reads c n ∷ gs) left ≡ None
  unfolding opens
  open_reset e = last ∙ rw e

-- ---- fields further on in the bytes

opens_further : (n tag at : ℕ) (left : Option ℕ) → opens tag (n + at) (further_open n left) ≡ further_open n (opens tag at left)
unfolding opens
opens_further n tag at left = go (eqb tag 4) (eqb tag 5)
  where
    go : (p q : Bool) → cond p (Some (n + at)) (cond q None (further_open n left)) ≡ further_open n (cond p (Some at) (cond q None left))
    go true q = refl
    go false true = refl
    go false false = refl

by_further : (n at : ℕ) (f : Field) (left : Option ℕ) → open_by (n + at) f (further_open n left) ≡ further_open n (open_by at f left)
unfolding open_by
by_further n at (Reads c k) left = opens_further n (tag_of c) at left
by_further n at Unreadable left = refl

pub open_further : (n at : ℕ) (fs : List Field) (left : Option ℕ) → open_after (n + at) fs (further_open n left) ≡ further_open n (open_after at fs left)
unfolding open_after
open_further n at [] left = refl
open_further n at (f ∷ fs) left =
    ap₂ (λ (k : ℕ) (o : Option ℕ). open_after k fs o) (add_assoc n at (size_of f)) (by_further n at f left)
    ∙ open_further n (at + size_of f) fs (open_by at f left)

-- ---- its offset lies within the fields

module _ (most : ℕ) where
  opens_most : (tag at : ℕ) (left : Option ℕ) → at ≤ most → (left_behind left).place ≤ most → (left_behind (opens tag at left)).place ≤ most
  unfolding opens left_behind
  opens_most tag at left h k = go (eqb tag 4) (eqb tag 5)
    where
      go : (p q : Bool) → (left_behind (cond p (Some at) (cond q None left))).place ≤ most
      go true q = h
      go false true = omega arith
      go false false = k

  by_most : (at : ℕ) (f : Field) (left : Option ℕ) → at ≤ most → (left_behind left).place ≤ most → (left_behind (open_by at f left)).place ≤ most
  unfolding open_by
  by_most at (Reads c n) left h k = opens_most (tag_of c) at left h k
  by_most at Unreadable left h k = k

  pub open_most : (at : ℕ) (fs : List Field) (left : Option ℕ) → at + sizes fs ≤ most → (left_behind left).place ≤ most → (left_behind (open_after at fs left)).place ≤ most
  unfolding open_after sizes
  open_most at [] left h k = k
  open_most at (f ∷ fs) left h k = open_most (at + size_of f) fs (open_by at f left) (omega arith) (by_most at f left (omega arith) k)
