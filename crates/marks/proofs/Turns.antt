-- One turn of each loop, in the terms that the code has. Assumes nothing.
use Rattle.std.proofs.Common.{◌≡◌, sym, ap, ap₂, ◌∙◌, true, false, List, ℕ, suc, ◌+◌, ◌-◌, ◌*◌, ◌/◌, ◌%◌, ◌^◌, ◌≤◌, ◌<◌, arith, one-mul, mod-lt, mod-eq_of_lt, length, take, drop}
use lib.Pow.{pow-lt}
use Rattle.numbers.specs.BufferLaws.{tail_part, tail_length}
use Rattle.vram.specs.declared.Cycle.{Cycle}
use Rattle.list.specs.Tags.{byte, word, len_of, cycle_of}
use Rattle.list.specs.TagLaws.{len_most, len_write, known_some, cycle_tag}
use Rattle.list.specs.Fields.{tag, body, whole, fields}
use Rattle.list.proofs.FieldLaws.{whole_length, whole_known, whole_says, body_word, readable_head, readable_tail}
use Rattle.list.specs.Meaning.{readable, cycles_of}
use Rattle.list.proofs.VerdictLaws.{cycles_nil, cycles_whole}
use Rattle.std.specs.Prelude.Option.{Some}
use Rattle.marks.specs.Marks.{is_marked, mark, marked_by, marked_by_all, first_marked}
use Rattle.marks.proofs.MarkLaws.{by_write, by_none}
use Rattle.marks.proofs.NextLaws.{first_marked_is, first_skip, left_of, left_marked, left_unmarked, left_none}

-- ---- a row's bit

pub shifted : (r : ℕ) → 1 * 2 ^ (r % 8) % 256 ≡ 2 ^ (r % 8)
shifted r =
    let h : 2 ^ (r % 8) < 2 ^ 8 = pow-lt (mod-lt r (omega arith)) in
    ap (λ (n : ℕ). n % 256) (one-mul (2 ^ (r % 8))) ∙ mod-eq_of_lt h

-- ---- a field, by its tag: s is what is left of the list

pub whole_some : (s : List ℕ) → whole s ≡ true → 0 < length s
whole_some s w = omega (arith, whole_length s w)

module _ (s : List ℕ) (w : whole s ≡ true) (marks : List ℕ) where
  pub mark_write : tag s ≤ 2 → mark (word s 3) marks ≡ marked_by (cycle_of (tag s) (body s)) marks
  mark_write h =
      let l = len_write (tag s) (omega arith) in
      sym (by_write marks (tag s) (body s) (known_some (tag s) (whole_known s w)) h ∙ ap (λ (r : ℕ). mark r marks) (body_word s 0 (omega arith)))

  pub mark_none : 2 < tag s → marks ≡ marked_by (cycle_of (tag s) (body s)) marks
  mark_none h = sym (by_none marks (cycle_of (tag s) (body s)) (rw (cycle_tag (tag s) (body s) (whole_known s w)) h))

-- ---- the loop over a list's fields: n is the length that the first one says

pub end_marks : (s marks : List ℕ) → length s ≤ 0 → marks ≡ marked_by_all (cycles_of s) marks
unfolding marked_by_all
end_marks s marks h = rw (cycles_nil s h)

module _ (s : List ℕ) (p : 0 < length s) (r : readable (fields s) ≡ true) where
  pub first_whole : whole s ≡ true
  first_whole = readable_head s p r

  pub first_header : 2 < length s
  first_header = omega (arith, whole_length s first_whole)

  pub first_low : byte s 2 ≤ 10
  first_low = omega (arith, whole_says s first_whole, len_most (tag s))

  module _ (n : ℕ) (e : n ≡ byte s 2) where
    said : 3 + n ≡ 3 + len_of (tag s)
    said = ap (λ (k : ℕ). 3 + k) (e ∙ whole_says s first_whole)

    pub first_fits : 3 + n ≤ length s
    first_fits = omega (arith, said, whole_length s first_whole)

    rest : take (length s - (3 + n)) (drop (3 + n) s) ≡ drop (3 + len_of (tag s)) s
    rest = tail_part s (3 + n) ∙ ap (λ (k : ℕ). drop k s) said

    pub rest_less : length (take (length s - (3 + n)) (drop (3 + n) s)) < length s
    rest_less = omega (arith, tail_length s (3 + n), first_fits)

    pub rest_readable : readable (fields (take (length s - (3 + n)) (drop (3 + n) s))) ≡ true
    rest_readable = ap (λ (t : List ℕ). readable (fields t)) rest ∙ readable_tail s p r

    pub turn_marks : (marks left : List ℕ) → left ≡ marked_by (cycle_of (tag s) (body s)) marks
        → marked_by_all (cycles_of (take (length s - (3 + n)) (drop (3 + n) s))) left ≡ marked_by_all (cycles_of s) marks
    unfolding marked_by_all
    turn_marks marks left l =
        ap₂ (λ (t x : List ℕ). marked_by_all (cycles_of t) x) rest l
        ∙ sym (ap (λ (k : List Cycle). marked_by_all k marks) (cycles_whole s first_whole))

-- ---- the search: r is the row looked at

module _ (marks : List ℕ) (r : ℕ) (h : r ≤ 511) where
  pub found : left_of marks r % 2 ≡ 1 → Some r ≡ first_marked marks r (512 - r)
  found e =
      let n : 512 - r ≡ suc (511 - r) = omega arith in
      sym (ap (first_marked marks r) n ∙ first_marked_is marks r (511 - r) (left_marked marks r e))

  passed : (k : ℕ) → r + k ≤ 512 → ((j : ℕ) → j < k → is_marked marks (r + j) ≡ false) → first_marked marks (r + k) (512 - (r + k)) ≡ first_marked marks r (512 - r)
  passed k l f =
      let n : 512 - r ≡ k + (512 - (r + k)) = omega arith in
      sym (ap (first_marked marks r) n ∙ first_skip marks k r (512 - (r + k)) f)

  -- the row is not marked
  pub turn_row : (left_of marks r % 2 ≡ 1 → ⊥) → first_marked marks (r + 1) (512 - (r + 1)) ≡ first_marked marks r (512 - r)
  turn_row n =
      passed 1 (omega arith)
      (λ j l. let e : r + j ≡ r = omega arith in ap (is_marked marks) e ∙ left_unmarked marks r n)

  -- no row of its byte is from there on
  pub turn_byte : left_of marks r ≡ 0 → first_marked marks (r / 8 * 8 + 8) (512 - (r / 8 * 8 + 8)) ≡ first_marked marks r (512 - r)
  turn_byte e =
      let k = 8 - r % 8 in
      let n : r / 8 * 8 + 8 ≡ r + k = omega arith in
      ap (λ (x : ℕ). first_marked marks x (512 - x)) n ∙ passed k (omega arith) (λ j l. left_none marks r j e (omega arith))
