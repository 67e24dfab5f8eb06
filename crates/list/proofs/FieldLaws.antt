-- Laws of the splitting. What stands above cites these and not the recursion. Assumes nothing.
use Rattle.std.specs.Prelude.{◌≡◌, Bool, List, [], ◌∷◌, ◌++◌, ℕ, zero, suc, ◌+◌, ◌*◌, ◌≤◌, ◌<◌, eqb, leb, get_or, drop}
use Rattle.std.proofs.Math.Path.{refl}
use Rattle.std.proofs.Common.{sym, ap, ap₂, ◌∙◌, arith, length-drop, get_or-take, get_or-drop, leb-true, le-leb, eqb-true}
use Rattle.std.proofs.Math.Bool.{true, false}
use Rattle.std.proofs.Math.ListN.{length, length-append, get_or-append}
use Rattle.std.proofs.lemmas.List.{take-append-le, drop-append-le}
use borrow.Author.Tests.{lt-leb}
use Rattle.numbers.specs.Between.{both}
use Rattle.list.specs.Tags.{byte, word, known, len_of, cycle_of}
use Rattle.list.specs.TagLaws.{len_most}
use Rattle.list.specs.Splits.{split}
use Rattle.list.proofs.SplitLaws.{split_skip, split_nil, split_good, split_not}
use Rattle.list.specs.Fields.{Field, Reads, Unreadable, tag, body, headed, whole, field_of, parts, fields}
use Rattle.list.specs.Meaning.{readable}

-- ---- a whole field

module _ (s : List ℕ) (h : whole s ≡ true) where
  -- its bytes are there
  pub whole_length : 3 + len_of (tag s) ≤ length s
  unfolding whole
  whole_length = leb-true (3 + len_of (tag s)) (length s) (both (leb (3 + len_of (tag s)) (length s)) (headed s) h).0

  pub whole_headed : headed s ≡ true
  unfolding whole
  whole_headed = (both (leb (3 + len_of (tag s)) (length s)) (headed s) h).1

  pub whole_known : known (tag s) ≡ true
  whole_known = (both (known (tag s)) (eqb (word s 1) (len_of (tag s))) whole_headed).0

  -- its header says its body's length, which is at most ten: so the low byte says it
  pub whole_says : byte s 2 ≡ len_of (tag s)
  unfolding word
  whole_says =
      let e : word s 1 ≡ len_of (tag s) = eqb-true _ _ (both (known (tag s)) (eqb (word s 1) (len_of (tag s))) whole_headed).1 in
      omega (arith, e, len_most (tag s))

  pub field_whole : field_of s ≡ Reads (cycle_of (tag s) (body s)) (len_of (tag s))
  unfolding field_of
  field_whole = rw h

-- a number of a field's body, by its place in the field
pub body_word : (s : List ℕ) (i : ℕ) → i + 1 < len_of (tag s) → word (body s) i ≡ word s (3 + i)
unfolding word
body_word s i h =
    let e : 3 + (i + 1) ≡ 3 + i + 1 = omega arith in
    ap₂ (λ (x y : ℕ). x * 256 + y)
    (get_or-take (len_of (tag s)) (drop 3 s) i 0 (omega arith) ∙ get_or-drop 3 s i 0)
    (get_or-take (len_of (tag s)) (drop 3 s) (i + 1) 0 h ∙ get_or-drop 3 s (i + 1) 0 ∙ ap (λ (n : ℕ). get_or s n 0) e)

-- a field that is not cut short is whole where its header is good
pub whole_is : (s : List ℕ) → 3 + len_of (tag s) ≤ length s → whole s ≡ headed s
unfolding whole
whole_is s h = rw (le-leb (3 + len_of (tag s)) (length s) h)

-- and one that is cut short is not
pub whole_short : (s : List ℕ) → length s < 3 + len_of (tag s) → whole s ≡ false
unfolding whole
whole_short s h = rw (lt-leb (3 + len_of (tag s)) (length s) h)

pub field_not : (s : List ℕ) → whole s ≡ false → field_of s ≡ Unreadable
unfolding field_of
field_not s h = rw h

-- ---- more bytes after it change nothing of it

pub tag_append : (s t : List ℕ) → 0 < length s → tag (s ++ t) ≡ tag s
tag_append s t h = get_or-append s t 0 0 h

word_append : (s t : List ℕ) (i : ℕ) → i + 1 < length s → word (s ++ t) i ≡ word s i
unfolding word
word_append s t i h =
    let p : i < length s = omega arith in
    rw (get_or-append s t 0 i p, get_or-append s t 0 (i + 1) h)

pub headed_append : (s t : List ℕ) → 3 ≤ length s → headed (s ++ t) ≡ headed s
headed_append s t h = rw (tag_append s t (omega arith), word_append s t 1 (omega arith))

module _ (s t : List ℕ) (h : whole s ≡ true) where
  pub whole_append : whole (s ++ t) ≡ true
  unfolding whole
  whole_append =
      let l = whole_length s h in
      let g : 3 + len_of (tag s) ≤ length (s ++ t) = simp length-append (omega arith) in
      rw (headed_append s t (omega arith), whole_headed s h, tag_append s t (omega arith), le-leb (3 + len_of (tag s)) (length (s ++ t)) g)

  body_append : body (s ++ t) ≡ body s
  body_append =
      let l = whole_length s h in
      rw (tag_append s t (omega arith), drop-append-le 3 s t (omega arith))
      (take-append-le (len_of (tag s)) (drop 3 s) t (simp length-drop (omega arith)))

  pub field_append : field_of (s ++ t) ≡ field_of s
  field_append =
      let l = whole_length s h in
      let k = tag_append s t (omega arith) in
      field_whole (s ++ t) whole_append
      ∙ ap (λ (n : ℕ). Reads (cycle_of n (body (s ++ t))) (len_of n)) k
      ∙ ap (λ (b : List ℕ). Reads (cycle_of (tag s) b) (len_of (tag s))) body_append
      ∙ sym (field_whole s h)

-- ---- the fields of some bytes: the one at the head, then those of what follows it

-- to pass bytes over is to drop them
parts_skip : (k : ℕ) (s : List ℕ) → parts k s ≡ parts 0 (drop k s)
parts_skip = split_skip field_of whole (λ b. 2 + len_of b)

pub fields_nil : (s : List ℕ) → length s ≤ 0 → fields s ≡ []
fields_nil = split_nil field_of whole (λ b. 2 + len_of b)

next : (b : ℕ) (s : List ℕ) → drop (3 + len_of b) (b ∷ s) ≡ drop (2 + len_of b) s
next b s = let e : 3 + len_of b ≡ suc (2 + len_of b) = omega arith in rw e

pub fields_whole : (s : List ℕ) → whole s ≡ true → fields s ≡ field_of s ∷ fields (drop (3 + len_of (tag s)) s)
fields_whole s h =
    let e : suc (2 + len_of (tag s)) ≡ 3 + len_of (tag s) = omega arith in
    split_good field_of whole (λ b. 2 + len_of b) s (omega (arith, whole_length s h)) h ∙ ap (λ (n : ℕ). field_of s ∷ fields (drop n s)) e

pub fields_not : (s : List ℕ) → 0 < length s → whole s ≡ false → fields s ≡ Unreadable ∷ []
fields_not s p h = split_not field_of whole (λ b. 2 + len_of b) s p h ∙ ap (λ (f : Field). f ∷ []) (field_not s h)

-- ---- bytes whose every field can be read

readable_whole : (s : List ℕ) (fs : List Field) → whole s ≡ true → readable (field_of s ∷ fs) ≡ readable fs
unfolding readable
readable_whole s fs h = rw (field_whole s h)

module _ (s : List ℕ) (p : 0 < length s) (r : readable (fields s) ≡ true) where
  pub readable_head : whole s ≡ true
  unfolding readable
  readable_head = go (whole s) refl
    where
      go : (t : Bool) → whole s ≡ t → t ≡ true
      go true q = refl
      go false q = rw (fields_not s p q) at r

  pub readable_tail : readable (fields (drop (3 + len_of (tag s)) s)) ≡ true
  readable_tail = sym (ap readable (fields_whole s readable_head) ∙ readable_whole s _ readable_head) ∙ r

pub parts_tail : (x : ℕ) (a : List ℕ) → readable (fields (x ∷ a)) ≡ true → readable (parts (2 + len_of x) a) ≡ true
parts_tail x a e = ap readable (parts_skip (2 + len_of x) a ∙ ap fields (sym (next x a))) ∙ readable_tail (x ∷ a) (omega arith) e

-- ---- the fields of joined lists, where the first can be read

parts_append : (k : ℕ) (a b : List ℕ) → k ≤ length a → readable (parts k a) ≡ true → parts k (a ++ b) ≡ parts k a ++ fields b
unfolding split
parts_append zero [] b h e = refl
parts_append (suc k) [] b h e = absurd (omega arith)
parts_append (suc k) (x ∷ a) b h e = parts_append k a b (omega arith) e
parts_append zero (x ∷ a) b h e = go (parts_append (2 + len_of x) a b)
  where
    go : (2 + len_of x ≤ length a → readable (parts (2 + len_of x) a) ≡ true → parts (2 + len_of x) (a ++ b) ≡ parts (2 + len_of x) a ++ fields b)
        → parts zero (x ∷ (a ++ b)) ≡ parts zero (x ∷ a) ++ fields b
    go ih =
        let w = readable_head (x ∷ a) (omega arith) e in
        let l = whole_length (x ∷ a) w in
        rw (whole_append (x ∷ a) b w, field_append (x ∷ a) b w, w)
        (ap (λ (fs : List Field). field_of (x ∷ a) ∷ fs) (ih (omega arith) (parts_tail x a e)))

pub fields_append : (a b : List ℕ) → readable (fields a) ≡ true → fields (a ++ b) ≡ fields a ++ fields b
fields_append a b e = parts_append 0 a b (omega arith) e
