-- Laws of writes and copies on a slice of words. Assumes nothing.
use Rattle.std.specs.Prelude.{◌≡◌, ℕ, zero, suc, ◌+◌, ◌-◌, ◌<◌, ◌≤◌, Bool, true, false, cond, ◌≢◌, ◌⊎◌, List, ◌++◌, map, length, take, drop, set, ◌==◌, slice_index, slice_set}
use Rattle.std.proofs.Math.Path.{refl, ap}
use Rattle.std.proofs.Common.{sym, ◌∙◌, length-set, length-drop, get_or-set_same, get_or-set_other, drop-set-lt, arith, eqb-true}
use Rattle.std.proofs.lemmas.List.{map-append, drop-set-add, take-set-le}
use Rattle.std.proofs.Math.Logic.{inl, inr, ⊎_elim}
use Rattle.std.proofs.Math.ListN.{length-take, get_or-append}
use Rattle.std.proofs.lemmas.List.Edits.{length-paste}
use Rattle.std.proofs.Math.Seq.{length_paste_head, get_or-append-add, get_or-take, get_or-drop}
use borrow.Author.Tests.{eqb-false}
use Rattle.numbers.specs.Between.{between, between_in, between_says, between_out, same_truth}
use Rattle.words.specs.Word.{merged}
use Rattle.words.specs.WordLaws.{merged_cong}
use Rattle.vram.specs.Memory.{put, puts, copied}
use Rattle.vram.specs.ListLaws.{map_take, map_drop}

-- ---- the definitions case by case

pub put_is : (m : List ℕ) (at new : ℕ) (w : ℕ → Bool) → put m at new w ≡ slice_set m at (merged (slice_index m at) new w)
unfolding put
put_is m at new w = refl

module _ (m : List ℕ) (base new : ℕ) (w : ℕ → ℕ → Bool) where
  pub puts_none : puts m base new w 0 ≡ m
  unfolding puts
  puts_none = refl

  pub puts_next : (k : ℕ) → puts m base new w (suc k) ≡ put (puts m base new w k) (base + k) new (w k)
  unfolding puts
  puts_next k = refl

-- ---- lengths are kept

pub put_length : (m : List ℕ) (at new : ℕ) (w : ℕ → Bool) → length (put m at new w) ≡ length m
unfolding put
put_length m at new w = simp length-set

pub puts_length : (m : List ℕ) (base new : ℕ) (w : ℕ → ℕ → Bool) (k : ℕ) → length (puts m base new w k) ≡ length m
unfolding puts
puts_length m base new w zero = refl
puts_length m base new w (suc k) = put_length (puts m base new w k) (base + k) new (w k) ∙ puts_length m base new w k

pub copied_length : (m : List ℕ) (from : ℕ) (r : List ℕ) (to n : ℕ) → from + n ≤ length m → to + n ≤ length r → length (copied m from r to n) ≡ length r
unfolding copied
copied_length m from r to n h k = length-paste r to (drop from m) n k (simp length-drop (omega arith))

-- ---- only what is said of bits below 16 counts

pub put_cong : (m : List ℕ) (at new : ℕ) (v w : ℕ → Bool) → ((b : ℕ) → b < 16 → v b ≡ w b) → put m at new v ≡ put m at new w
unfolding put
put_cong m at new v w e = ap (set m at) (merged_cong (slice_index m at) new v w e)

pub puts_cong : (m : List ℕ) (base new : ℕ) (v w : ℕ → ℕ → Bool) → ((j b : ℕ) → b < 16 → v j b ≡ w j b) → (k : ℕ)
    → puts m base new v k ≡ puts m base new w k
unfolding puts
puts_cong m base new v w e zero = refl
puts_cong m base new v w e (suc k) =
    put_cong (puts m base new v k) (base + k) new (v k) (w k) (e k) ∙ ap (λ (l : List ℕ). put l (base + k) new (w k)) (puts_cong m base new v w e k)

-- ---- a word after a write

pub put_at : (m : List ℕ) (at new : ℕ) (w : ℕ → Bool) (a : ℕ) → a < length m
    → slice_index (put m at new w) a ≡ cond (a == at) (merged (slice_index m a) new w) (slice_index m a)
unfolding put
put_at m at new w a h = go (a == at) refl
  where
    go : (t : Bool) → (a == at) ≡ t → slice_index (slice_set m at (merged (slice_index m at) new w)) a ≡ cond t (merged (slice_index m a) new w) (slice_index m a)
    go true e = let z : a ≡ at = eqb-true a at e in rw (← z, get_or-set_same m a _ 0 h)
    go false e = get_or-set_other m at a _ 0 (eqb-false a at e)

-- a lies among k places from base on
abbrev pub among : ℕ → ℕ → ℕ → Bool
among base k a = between base (base + k) a

pub among_one : (base a : ℕ) → among base 1 a ≡ (a == base)
among_one base a = go (a == base) refl
  where
    go : (t : Bool) → (a == base) ≡ t → among base 1 a ≡ t
    go true e = let z : a ≡ base = eqb-true a base e in between_in base (base + 1) a (omega arith) (omega arith)
    go false e = let z : a ≢ base = eqb-false a base e in between_out base (base + 1) a (λ h. z (omega arith))

among_zero : (base a : ℕ) → among base 0 a ≡ false
among_zero base a = between_out base (base + 0) a (λ h. omega arith)

among_last : (base k : ℕ) → among base (suc k) (base + k) ≡ true
among_last base k = between_in base (base + suc k) (base + k) (omega arith) (omega arith)

among_over : (base k : ℕ) → among base k (base + k) ≡ false
among_over base k = between_out base (base + k) (base + k) (λ h. omega arith)

among_other : (base k a : ℕ) → a ≢ base + k → among base (suc k) a ≡ among base k a
among_other base k a n =
    same_truth (among base (suc k) a) (among base k a)
    (λ e. let h = between_says base (base + suc k) a e in between_in base (base + k) a (omega arith) (omega arith))
    (λ e. let h = between_says base (base + k) a e in between_in base (base + suc k) a (omega arith) (omega arith))

module _ (m : List ℕ) (base new : ℕ) (w : ℕ → ℕ → Bool) (a : ℕ) (h : a < length m) where
  pub puts_at : (k : ℕ) → slice_index (puts m base new w k) a ≡ cond (among base k a) (merged (slice_index m a) new (w (a - base))) (slice_index m a)
  unfolding puts
  puts_at zero = rw (among_zero base a)
  puts_at (suc k) =
      put_at (puts m base new w k) (base + k) new (w k) a (rw (puts_length m base new w k) h) ∙ go (a == base + k) refl (puts_at k)
    where
      go : (t : Bool) → (a == base + k) ≡ t
          → slice_index (puts m base new w k) a ≡ cond (among base k a) (merged (slice_index m a) new (w (a - base))) (slice_index m a)
          → cond t (merged (slice_index (puts m base new w k) a) new (w k)) (slice_index (puts m base new w k) a)
          ≡ cond (among base (suc k) a) (merged (slice_index m a) new (w (a - base))) (slice_index m a)
      go true e ih =
          let z : a ≡ base + k = eqb-true a (base + k) e in
          let j : a - base ≡ k = omega arith in
          let on : among base (suc k) a ≡ true = rw z (among_last base k) in
          let off : among base k a ≡ false = rw z (among_over base k) in
          rw (ih, on, off, j)
      go false e ih = rw (ih, among_other base k a (eqb-false a (base + k) e))

-- ---- n words from `at` on, where the write lies outside them

part_set : (l : List ℕ) (at n i v : ℕ) → (i < at) ⊎ (at + n ≤ i) → take n (drop at (slice_set l i v)) ≡ take n (drop at l)
part_set l at n i v h = ⊎_elim below above h
  where
    below : i < at → take n (drop at (slice_set l i v)) ≡ take n (drop at l)
    below h = ap (take n) (drop-set-lt at l i v h)

    above : at + n ≤ i → take n (drop at (slice_set l i v)) ≡ take n (drop at l)
    above h =
        let e : i ≡ at + (i - at) = omega arith in
        let k : n ≤ i - at = omega arith in
        rw (e, drop-set-add at l (i - at) v, take-set-le n (drop at l) (i - at) v k)

module _ (at n : ℕ) where
  put_part : (m : List ℕ) (i new : ℕ) (w : ℕ → Bool) → (i < at) ⊎ (at + n ≤ i) → take n (drop at (put m i new w)) ≡ take n (drop at m)
  unfolding put
  put_part m i new w h = part_set m at n i _ h

  pub puts_part : (m : List ℕ) (base new : ℕ) (w : ℕ → ℕ → Bool) (k : ℕ) → (base + k ≤ at) ⊎ (at + n ≤ base)
      → take n (drop at (puts m base new w k)) ≡ take n (drop at m)
  unfolding puts
  puts_part m base new w zero h = refl
  puts_part m base new w (suc k) h =
      put_part (puts m base new w k) (base + k) new (w k) (⊎_elim (λ x. inl (omega arith)) (λ x. inr (omega arith)) h)
      ∙ puts_part m base new w k (⊎_elim (λ x. inl (omega arith)) (λ x. inr (omega arith)) h)

-- ---- a word after a copy: one of those copied, or as it was

module _ (m : List ℕ) (from : ℕ) (r : List ℕ) (to n : ℕ) (h : from + n ≤ length m) (k : to + n ≤ length r) where
  head : length (take to r ++ take n (drop from m)) ≡ to + n
  head = length_paste_head r to (drop from m) n (omega arith) (simp length-drop (omega arith))

  pub copied_in : (i : ℕ) → i < n → slice_index (copied m from r to n) (to + i) ≡ slice_index m (from + i)
  unfolding copied
  copied_in i l =
      let e : length (take to r) ≡ to = simp length-take (omega arith) in
      get_or-append (take to r ++ take n (drop from m)) (drop (to + n) r) 0 (to + i) (rw head (omega arith))
      ∙ ap (λ (x : ℕ). slice_index (take to r ++ take n (drop from m)) (x + i)) (sym e)
      ∙ get_or-append-add (take to r) (take n (drop from m)) i 0
      ∙ get_or-take n (drop from m) i 0 l
      ∙ get_or-drop from m i 0

  pub copied_out : (i : ℕ) → (i < to) ⊎ (to + n ≤ i) → slice_index (copied m from r to n) i ≡ slice_index r i
  unfolding copied
  copied_out i o = ⊎_elim below above o
    where
      below : i < to → slice_index (copied m from r to n) i ≡ slice_index r i
      below l =
          let e : length (take to r) ≡ to = simp length-take (omega arith) in
          get_or-append (take to r ++ take n (drop from m)) (drop (to + n) r) 0 i (rw head (omega arith))
          ∙ get_or-append (take to r) (take n (drop from m)) 0 i (rw e l)
          ∙ get_or-take to r i 0 l

      above : to + n ≤ i → slice_index (copied m from r to n) i ≡ slice_index r i
      above l =
          let e : i ≡ to + n + (i - (to + n)) = omega arith in
          ap (λ (x : ℕ). slice_index (copied m from r to n) x) e
          ∙ ap (λ (x : ℕ). slice_index (copied m from r to n) (x + (i - (to + n)))) (sym head)
          ∙ get_or-append-add (take to r ++ take n (drop from m)) (drop (to + n) r) (i - (to + n)) 0
          ∙ get_or-drop (to + n) r (i - (to + n)) 0
          ∙ ap (λ (x : ℕ). slice_index r x) (sym e)

-- ---- a copy of what a function makes of each word

pub copied_map : (f : ℕ → ℕ) (m : List ℕ) (from : ℕ) (r : List ℕ) (to n : ℕ) → map f (copied m from r to n) ≡ copied (map f m) from (map f r) to n
unfolding copied
copied_map f m from r to n = simp (map-append, map_take, map_drop)
