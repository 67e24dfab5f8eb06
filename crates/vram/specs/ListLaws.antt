-- Lists that a function does not tell apart. Assumes nothing.
use Rattle.std.specs.Prelude.{◌≡◌, ℕ, zero, suc, ◌<◌, List, [], ◌∷◌, map, length, get_or, take, drop, slice_index_or, slice_set, refl}
use Rattle.std.proofs.Common.{sym, ap, ◌∙◌, ext_get_or}
use Rattle.std.proofs.lemmas.List.{length-map}
use Rattle.std.proofs.Math.ListN.{get_or-map}

module _ {A B : Type 0} (f : A → B) where
  pub map_set : (l : List A) (i : ℕ) (v : A) → map f (slice_set l i v) ≡ slice_set (map f l) i (f v)
  map_set [] i v = refl
  map_set (x ∷ l) zero v = refl
  map_set (x ∷ l) (suc i) v = ap (λ (t : List B). f x ∷ t) (map_set l i v)

  pub map_take : (n : ℕ) (l : List A) → map f (take n l) ≡ take n (map f l)
  map_take zero l = refl
  map_take (suc n) [] = refl
  map_take (suc n) (x ∷ l) = ap (λ (t : List B). f x ∷ t) (map_take n l)

  pub map_drop : (n : ℕ) (l : List A) → map f (drop n l) ≡ drop n (map f l)
  map_drop zero l = refl
  map_drop (suc n) [] = refl
  map_drop (suc n) (x ∷ l) = map_drop n l

  -- lists that f does not tell apart have one length, and at each place elements that f does not tell apart
  pub map_length : (l m : List A) → map f l ≡ map f m → length l ≡ length m
  map_length l m e = sym (length-map l f) ∙ ap length e ∙ length-map m f

  pub map_at : (l m : List A) (i : ℕ) (d : A) → map f l ≡ map f m → f (slice_index_or l i d) ≡ f (slice_index_or m i d)
  map_at l m i d e = sym (get_or-map f l i d) ∙ ap (λ (t : List B). get_or t i (f d)) e ∙ get_or-map f m i d

  -- and back
  pub map_ext : (d : A) (l m : List A) → length l ≡ length m → ((i : ℕ) → i < length l → f (slice_index_or l i d) ≡ f (slice_index_or m i d)) → map f l ≡ map f m
  map_ext d l m h e =
      ext_get_or (f d) (map f l) (map f m) (length-map l f ∙ h ∙ sym (length-map m f))
      (λ i p. get_or-map f l i d ∙ e i (rw (length-map l f) at p) ∙ sym (get_or-map f m i d))
