-- How many bytes and how many cycles a list has. Assumes nothing.
use Rattle.std.specs.Prelude.{◌≡◌, refl, true, List, [], ◌∷◌, ◌++◌, ℕ, zero, suc, ◌+◌, ◌≤◌, length}
use Rattle.std.proofs.Common.{sym, ap, ◌∙◌, true≢false, arith, length-append}
use Rattle.list.specs.Tags.{len_of}
use Rattle.list.specs.Splits.{split}
use Rattle.list.specs.Fields.{Field, Reads, Unreadable, parts, fields}
use Rattle.list.proofs.FieldLaws.{whole_length, fields_append, readable_head, parts_tail}
use Rattle.list.specs.Meaning.{cycles, readable, cycles_of, count_of}
use Rattle.list.proofs.VerdictLaws.{size_whole}
use Rattle.list.specs.Joined.{sizes}

-- ---- bytes: the fields of a list that can be read are all of it

sizes_parts : (k : ℕ) (a : List ℕ) → k ≤ length a → readable (parts k a) ≡ true → k + sizes (parts k a) ≡ length a
unfolding split sizes
sizes_parts zero [] h e = refl
sizes_parts (suc k) [] h e = absurd (omega arith)
sizes_parts (suc k) (x ∷ a) h e = let i = sizes_parts k a (omega arith) e in omega arith
sizes_parts zero (x ∷ a) h e = go (sizes_parts (2 + len_of x) a)
  where
    go : (2 + len_of x ≤ length a → readable (parts (2 + len_of x) a) ≡ true → 2 + len_of x + sizes (parts (2 + len_of x) a) ≡ length a)
        → 0 + sizes (parts zero (x ∷ a)) ≡ length (x ∷ a)
    go ih =
        let w = readable_head (x ∷ a) (omega arith) e in
        let l = whole_length (x ∷ a) w in
        let s = size_whole (x ∷ a) w in
        let t = parts_tail x a e in
        rw w (omega (arith, ih (omega arith) t))

pub sizes_all : (a : List ℕ) → readable (fields a) ≡ true → sizes (fields a) ≡ length a
sizes_all a e = let i = sizes_parts 0 a (omega arith) e in omega arith

-- ---- cycles

cycles_count : (fs : List Field) → readable fs ≡ true → length (cycles fs) ≡ length fs
unfolding cycles readable
cycles_count [] e = refl
cycles_count (Reads c n ∷ fs) e = ap (λ (k : ℕ). suc k) (cycles_count fs e)
cycles_count (Unreadable ∷ fs) e = absurd (true≢false (sym e))

module _ (a : List ℕ) (e : readable (fields a) ≡ true) where
  -- the number of a list's cycles is its number of fields
  pub count_cycles : length (cycles_of a) ≡ count_of a
  count_cycles = cycles_count (fields a) e

  pub count_append : (b : List ℕ) → count_of (a ++ b) ≡ count_of a + count_of b
  count_append b = ap length (fields_append a b e) ∙ length-append (fields a) (fields b)
