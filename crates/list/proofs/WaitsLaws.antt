-- When the field at the head of some bytes is settled. Assumes nothing.
use Rattle.std.specs.Prelude.{◌≡◌, refl, Bool, true, false, ◌&&◌, cond, List, [], ◌∷◌, ◌++◌, ◌⊎◌, ℕ, ◌+◌, ◌≤◌, ◌<◌, leb, ltb, length, drop}
use Rattle.std.proofs.Common.{sym, ap, ap₂, ◌∙◌, true≢false, inl, inr, arith, length-append, drop_at, leb-true, leb-false, ltb-true, ltb-false, le-leb, le-ltb}
use Rattle.list.specs.Tags.{len_of}
use Rattle.list.specs.TagLaws.{len_most}
use Rattle.list.specs.Fields.{Field, Unreadable, tag, headed, whole, field_of, size_of, fields}
use Rattle.list.proofs.FieldLaws.{whole_length, whole_headed, field_not, headed_append, field_append, whole_append, fields_whole, fields_not}
use Rattle.list.proofs.VerdictLaws.{size_whole}
use Rattle.list.specs.Waits.{waits}

-- no bytes wait for some
pub waits_nil : waits [] ≡ true
unfolding waits
waits_nil = refl

-- a whole field does not wait
pub whole_settled : (s : List ℕ) → whole s ≡ true → waits s ≡ false
unfolding waits
whole_settled s h =
    let l = whole_length s h in
    rw (le-leb 3 (length s) (omega arith), whole_headed s h) (le-ltb (length s) (3 + len_of (tag s)) l)

-- what waits cannot be read so far
pub waits_not : (s : List ℕ) → waits s ≡ true → whole s ≡ false
waits_not s h = go (whole s) refl
  where
    go : (t : Bool) → whole s ≡ t → t ≡ false
    go true q = absurd (true≢false (sym h ∙ whole_settled s q))
    go false q = refl

-- what does not wait has its header, and is whole or has a header that is wrong
settled_cases : (s : List ℕ) → waits s ≡ false → (3 ≤ length s) × ((whole s ≡ true) ⊎ (headed s ≡ false))
unfolding waits whole
settled_cases s h = go (leb 3 (length s)) refl (headed s) refl (ltb (length s) (3 + len_of (tag s))) refl
  where
    go : (a : Bool) → leb 3 (length s) ≡ a → (k : Bool) → headed s ≡ k → (b : Bool) → ltb (length s) (3 + len_of (tag s)) ≡ b
        → (3 ≤ length s) × ((whole s ≡ true) ⊎ (headed s ≡ false))
    go false p k q b u = let w : waits s ≡ true = rw p in absurd (true≢false (sym w ∙ h))
    go true p false q b u = (leb-true _ _ p, inr q)
    go true p true q true u = let w : waits s ≡ true = rw (p, q, u) in absurd (true≢false (sym w ∙ h))
    go true p true q false u = (leb-true _ _ p, inl (rw (q, le-leb (3 + len_of (tag s)) (length s) (ltb-false _ _ u))))

pub settled_long : (s : List ℕ) → waits s ≡ false → 3 ≤ length s
settled_long s h = (settled_cases s h).0

not_whole : (s : List ℕ) → headed s ≡ false → whole s ≡ false
not_whole s h = go (whole s) refl
  where
    go : (t : Bool) → whole s ≡ t → t ≡ false
    go true q = absurd (true≢false (sym (whole_headed s q) ∙ h))
    go false q = refl

-- a settled field stays the same with more bytes after it, also one that cannot be read
module _ (s t : List ℕ) (h : waits s ≡ false) where
  pub settled_whole : whole (s ++ t) ≡ whole s
  settled_whole = go (settled_cases s h).1
    where
      go : (whole s ≡ true) ⊎ (headed s ≡ false) → whole (s ++ t) ≡ whole s
      go (inl w) = whole_append s t w ∙ sym w
      go (inr e) = not_whole (s ++ t) (headed_append s t (settled_cases s h).0 ∙ e) ∙ sym (not_whole s e)

  pub settled_append : field_of (s ++ t) ≡ field_of s
  settled_append = go (settled_cases s h).1
    where
      go : (whole s ≡ true) ⊎ (headed s ≡ false) → field_of (s ++ t) ≡ field_of s
      go (inl w) = field_append s t w
      go (inr e) = field_not (s ++ t) (settled_whole ∙ not_whole s e) ∙ sym (field_not s (not_whole s e))

-- what waits is shorter than its header, or than the field that its header says
waits_short : (s : List ℕ) → waits s ≡ true → (length s < 3) ⊎ (length s < 3 + len_of (tag s))
unfolding waits
waits_short s h = go (leb 3 (length s)) refl (ltb (length s) (3 + len_of (tag s))) refl
  where
    go : (a : Bool) → leb 3 (length s) ≡ a → (b : Bool) → ltb (length s) (3 + len_of (tag s)) ≡ b
        → (length s < 3) ⊎ (length s < 3 + len_of (tag s))
    go false p b r = inl (leb-false _ _ p)
    go true p true r = inr (ltb-true _ _ r)
    go true p false r = absurd (no (headed s) (rw (p, r) at h))
      where
        no : (k : Bool) → (k && false) ≡ true → ⊥
        no true e = true≢false (sym e)
        no false e = true≢false (sym e)

waits_next : (s t : List ℕ) → (length s < 3) ⊎ (length s < 3 + len_of (tag s)) → length s < 3 + len_of (tag (s ++ t))
waits_next [] t k = omega arith
waits_next (x ∷ s) t (inl k) = omega arith
waits_next (x ∷ s) t (inr k) = k

-- bytes that wait are fewer than the field that more bytes make of them
pub waits_less : (s t : List ℕ) → waits s ≡ true → length s < 3 + len_of (tag (s ++ t))
waits_less s t k = waits_next s t (waits_short s k)

-- and at most twelve
pub waits_few : (s : List ℕ) → waits s ≡ true → length s < 13
waits_few s h = go (waits_short s h)
  where
    go : (length s < 3) ⊎ (length s < 3 + len_of (tag s)) → length s < 13
    go (inl k) = omega arith
    go (inr k) = omega (arith, len_most (tag s))

head_kept : (s : List ℕ) (b : ℕ) (t : List ℕ) → tag ((s ++ b ∷ []) ++ t) ≡ tag (s ++ b ∷ [])
head_kept [] b t = refl
head_kept (x ∷ s) b t = refl

-- the byte that makes a field of waiting bytes is the field's last
pub settled_length : (s : List ℕ) (b : ℕ) → waits s ≡ true → whole (s ++ b ∷ []) ≡ true → length (s ++ b ∷ []) ≡ 3 + len_of (tag (s ++ b ∷ []))
settled_length s b k w =
    let n = waits_less s (b ∷ []) k in
    let l = whole_length (s ++ b ∷ []) w in
    let o : length (s ++ b ∷ []) ≡ length s + 1 = simp length-append in
    omega arith

-- a list that comes byte by byte: the field that a byte settles, then those of the bytes after it
pub settled_fields : (s : List ℕ) (b : ℕ) (t : List ℕ) → waits s ≡ true → waits (s ++ b ∷ []) ≡ false
    → fields ((s ++ b ∷ []) ++ t) ≡ field_of (s ++ b ∷ []) ∷ cond (whole (s ++ b ∷ [])) (fields t) []
settled_fields s b t h k = go (whole (s ++ b ∷ [])) refl
  where
    go : (u : Bool) → whole (s ++ b ∷ []) ≡ u → fields ((s ++ b ∷ []) ++ t) ≡ field_of (s ++ b ∷ []) ∷ cond u (fields t) []
    go true q =
        let w = whole_append (s ++ b ∷ []) t q in
        let e : tag ((s ++ b ∷ []) ++ t) ≡ tag (s ++ b ∷ []) = head_kept s b t in
        fields_whole ((s ++ b ∷ []) ++ t) w
        ∙ ap₂ (λ (f : Field) (r : List ℕ). f ∷ fields r) (field_append (s ++ b ∷ []) t q)
        (ap (λ (n : ℕ). drop (3 + len_of n) ((s ++ b ∷ []) ++ t)) e ∙ drop_at (s ++ b ∷ []) t (3 + len_of (tag (s ++ b ∷ []))) (settled_length s b h q))
    go false q =
        fields_not ((s ++ b ∷ []) ++ t) (simp (length-append, length-append) (omega arith)) (settled_whole (s ++ b ∷ []) t k ∙ q)
        ∙ ap (λ (f : Field). f ∷ []) (sym (field_not (s ++ b ∷ []) q))

-- what waits at the end of the bytes: one field that cannot be read
pub waits_fields : (s : List ℕ) → 0 < length s → waits s ≡ true → fields s ≡ Unreadable ∷ []
waits_fields s p h = fields_not s p (waits_not s h)

-- a whole field ends inside the bytes, and is at most thirteen of them
pub settled_fits : (s : List ℕ) → whole s ≡ true → (size_of (field_of s) ≤ length s) × (size_of (field_of s) ≤ 13)
settled_fits s w =
    let e = size_whole s w in
    (omega (arith, whole_length s w), omega (arith, len_most (tag s)))
