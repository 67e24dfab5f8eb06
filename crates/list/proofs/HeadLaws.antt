-- Laws of the field at the head of some bytes: how a list is walked by it. Assumes nothing.
use Rattle.std.specs.Prelude.{◌≡◌, Bool, List, [], ◌∷◌, ℕ, ◌+◌, ◌≤◌, ◌<◌, length, drop}
use Rattle.std.proofs.Math.Path.{refl, sym, ap}
use Rattle.std.proofs.Common.{◌∙◌, subst, arith}
use Rattle.std.proofs.Math.Bool.{true, false}
use Rattle.vram.specs.declared.Cycle.{Cycle}
use Rattle.list.specs.declared.Head.{Head}
use Rattle.list.specs.declared.Head.TheVariants.{Waits, Wrong, Whole}
use Rattle.list.specs.Tags.{len_of, cycle_of}
use Rattle.list.specs.TagLaws.{len_most}
use Rattle.list.specs.Fields.{tag, body, whole, field_of, fields}
use Rattle.list.proofs.FieldLaws.{whole_length, readable_head, readable_tail}
use Rattle.list.specs.Meaning.{number_of, readable, cycles_of}
use Rattle.list.proofs.VerdictLaws.{number_whole, number_not, cycles_whole, cycles_not}
use Rattle.list.specs.Waits.{waits}
use Rattle.list.proofs.WaitsLaws.{whole_settled, waits_not}
use Rattle.list.specs.Heads.{head_of, head_number}

-- ---- the three cases

module _ (s : List ℕ) where
  pub head_waits : waits s ≡ true → head_of s ≡ Waits
  unfolding head_of
  head_waits h = rw h

  pub head_whole : whole s ≡ true → head_of s ≡ Whole (cycle_of (tag s) (body s)) (3 + len_of (tag s))
  unfolding head_of
  head_whole w = rw (whole_settled s w, w)

  pub head_wrong : waits s ≡ false → whole s ≡ false → head_of s ≡ Wrong
  unfolding head_of
  head_wrong h w = rw (h, w)

  -- its number is that of the list's field
  pub head_number_is : (rows : ℕ) (made : Bool) → head_number rows made (head_of s) ≡ number_of rows made (field_of s)
  unfolding head_number
  head_number_is rows made = go (waits s) refl (whole s) refl
    where
      go : (t : Bool) → waits s ≡ t → (u : Bool) → whole s ≡ u → head_number rows made (head_of s) ≡ number_of rows made (field_of s)
      go true h u w = ap (head_number rows made) (head_waits h) ∙ sym (number_not s (waits_not s h) rows made)
      go false h true w = ap (head_number rows made) (head_whole w) ∙ sym (number_whole s w rows made)
      go false h false w = ap (head_number rows made) (head_wrong h w) ∙ sym (number_not s w rows made)

-- ---- what a head tells of the bytes

abbrev pub Told : List ℕ → Head → Type 0
Told s Waits = waits s ≡ true
Told s Wrong = (waits s ≡ false) × (whole s ≡ false)
Told s (Whole cycle size) = (whole s ≡ true) × (cycle ≡ cycle_of (tag s) (body s)) × (size ≡ 3 + len_of (tag s))

pub head_told : (s : List ℕ) → Told s (head_of s)
head_told s = go (waits s) refl (whole s) refl
  where
    go : (t : Bool) → waits s ≡ t → (u : Bool) → whole s ≡ u → Told s (head_of s)
    go true h u w = subst (Told s) (sym (head_waits s h)) h
    go false h true w = subst (Told s) (sym (head_whole s w)) (w, refl, refl)
    go false h false w = subst (Told s) (sym (head_wrong s h w)) (h, w)

-- ---- any bytes are walked by their heads, up to one that is no whole field

-- what a head says of the cycles of the bytes
abbrev pub Says : List ℕ → Head → Type 0
Says s Waits = cycles_of s ≡ []
Says s Wrong = cycles_of s ≡ []
Says s (Whole cycle size) = (cycles_of s ≡ cycle ∷ cycles_of (drop size s)) × (0 < size) × (size ≤ length s)

whole_walks : (s : List ℕ) → whole s ≡ true → Says s (Whole (cycle_of (tag s) (body s)) (3 + len_of (tag s)))
whole_walks s w = (cycles_whole s w, omega arith, whole_length s w)

pub head_says : (s : List ℕ) → Says s (head_of s)
head_says s = go (waits s) refl (whole s) refl
  where
    go : (t : Bool) → waits s ≡ t → (u : Bool) → whole s ≡ u → Says s (head_of s)
    go true h u w = subst (Says s) (sym (head_waits s h)) (cycles_not s (waits_not s h))
    go false h true w = subst (Says s) (sym (head_whole s w)) (whole_walks s w)
    go false h false w = subst (Says s) (sym (head_wrong s h w)) (cycles_not s w)

-- ---- a list that can be read is walked by its heads

module _ (s : List ℕ) (p : 0 < length s) (r : readable (fields s) ≡ true) where
  pub record Walks (cycle : Cycle) (size : ℕ) : Type 0 where
    pub head : head_of s ≡ Whole cycle size
    pub cycles : cycles_of s ≡ cycle ∷ cycles_of (drop size s)
    pub some : 0 < size
    pub inside : size ≤ length s
    pub most : size ≤ 13
    pub rest : readable (fields (drop size s)) ≡ true

  -- the head is a whole field; its cycle comes first, then those of the bytes after it, which can be read too
  pub head_walks : Walks (cycle_of (tag s) (body s)) (3 + len_of (tag s))
  head_walks =
      let w = readable_head s p r in
      let t = whole_walks s w in
      record {
        head = head_whole s w;
        cycles = t.0;
        some = t.1;
        inside = t.2;
        most = omega (arith, len_most (tag s));
        rest = readable_tail s p r;
      }
