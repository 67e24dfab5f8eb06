-- Laws of marks. Assumes nothing.
use Rattle.std.specs.Prelude.{◌≡◌, Bool, true, false, ◌||◌, List, [], ◌∷◌, ◌++◌, eqb, length}
use Rattle.std.proofs.Math.Path.{refl}
use Rattle.std.proofs.Common.{sym, ap, ◌∙◌, arith, lit≤, length-set, get_or-set_same, get_or-set_other, eqb-true, eq-eqb, ne_eqb, ℕ, zero, suc, ◌/◌, ◌%◌, ◌^◌, ◌≤◌, ◌<◌}
use Rattle.std.proofs.Math.Bool.{or-false, or_assoc}
use Rattle.std.proofs.lemmas.List.{get_or-replicate}
use Rattle.std.proofs.lemmas.Bool.{eqb-false}
use Rattle.words.specs.Bit.{bit}
use Rattle.words.specs.BitLaws.{bit_of_or, bit_none, bit_pow}
use Rattle.vram.specs.declared.Cycle.{Cycle}
use Rattle.vram.specs.declared.Cycle.TheVariants.{WordWrite, BlockWrite, LoadColour, LoadMask, ResetRefresh, FullTransfer, SplitTransfer, StopPoints}
use Rattle.vram.specs.Kinds.{tag_of, names}
use Rattle.vram.proofs.CaseLaws.{tag_word, tag_block, tag_colour, tag_mask, tag_reset, tag_full, tag_split, tag_stop, names_word, names_block, names_other}
use Rattle.list.specs.Tags.{word, cycle_of}
use Rattle.list.specs.TagLaws.{cycle_one, cycle_two}
use Rattle.marks.specs.Marks.{is_marked, no_marks, mark, marking, written_by, marked_by, marked_by_all, named_in}

-- ---- a mark

-- row 9 stands at bit 1 of byte 1
pub mark_example : (mark 9 (0 ∷ 0 ∷ 0 ∷ []) ≡ 0 ∷ 2 ∷ 0 ∷ []) × (is_marked (0 ∷ 2 ∷ 0 ∷ []) 9 ≡ true)
unfolding mark is_marked bit
mark_example = (refl, refl)

mark_length : (r : ℕ) (marks : List ℕ) → length (mark r marks) ≡ length marks
unfolding mark
mark_length r marks = simp length-set

-- the row's mark is set, and every other mark stays
pub mark_marks : (marks : List ℕ) (r q : ℕ) → q / 8 < length marks → is_marked (mark r marks) q ≡ (is_marked marks q || eqb r q)
unfolding mark is_marked
mark_marks marks r q h = go (eqb (q / 8) (r / 8)) (eqb r q) refl refl
  where
    same : (u : Bool) → eqb r q ≡ u → q / 8 ≡ r / 8 → eqb (q % 8) (r % 8) ≡ u
    same true f z = eq-eqb (q % 8) (r % 8) (let y : r ≡ q = eqb-true r q f in omega arith)
    same false f z = ne_eqb (q % 8) (r % 8) (λ x. eqb-false r q f (omega arith))

    go : (t u : Bool) → eqb (q / 8) (r / 8) ≡ t → eqb r q ≡ u → is_marked (mark r marks) q ≡ (is_marked marks q || u)
    go false true e f = let z : r ≡ q = eqb-true r q f in absurd (eqb-false (q / 8) (r / 8) e (ap (λ (n : ℕ). n / 8) (sym z)))
    go false false e f = rw (get_or-set_other marks (r / 8) (q / 8) _ 0 (eqb-false (q / 8) (r / 8) e)) (sym (or-false (is_marked marks q)))
    go true u e f =
        let z : q / 8 ≡ r / 8 = eqb-true (q / 8) (r / 8) e in
        rw (z, get_or-set_same marks (r / 8) _ 0 (omega arith), bit_of_or _ (2 ^ (r % 8)) (q % 8), bit_pow (r % 8) (q % 8), same u f z)

-- ---- the marks after a cycle: set where it is a write that names the row, and else as they were

marking_length : (rows marks : List ℕ) → length (marking rows marks) ≡ length marks
unfolding marking
marking_length [] marks = refl
marking_length (r ∷ rows) marks = marking_length rows (mark r marks) ∙ mark_length r marks

by_length : (c : Cycle) (marks : List ℕ) → length (marked_by c marks) ≡ length marks
unfolding marked_by
by_length c marks = marking_length (written_by c) marks

module _ (marks : List ℕ) (q : ℕ) where
  other : (c : Cycle) (t : ℕ) → tag_of c ≡ t → 2 < t → is_marked marks q ≡ (is_marked marks q || names q c)
  other c t e h = rw (names_other q c (omega arith)) (sym (or-false (is_marked marks q)))

  module _ (h : q / 8 < length marks) where
    pub by_marks : (c : Cycle) → is_marked (marked_by c marks) q ≡ (is_marked marks q || names q c)
    unfolding marked_by written_by marking
    by_marks (WordWrite row column word masking mask strobes) = rw (names_word q row column word masking mask strobes) (mark_marks marks row q h)
    by_marks (BlockWrite row column columns masking mask strobes) = rw (names_block q row column columns masking mask strobes) (mark_marks marks row q h)
    by_marks (LoadColour word strobes) = other (LoadColour word strobes) 3 (tag_colour word strobes) (lit≤ tt)
    by_marks (LoadMask word strobes) = other (LoadMask word strobes) 4 (tag_mask word strobes) (lit≤ tt)
    by_marks ResetRefresh = other ResetRefresh 5 tag_reset (lit≤ tt)
    by_marks (FullTransfer row half tap) = other (FullTransfer row half tap) 6 (tag_full row half tap) (lit≤ tt)
    by_marks (SplitTransfer row half tap) = other (SplitTransfer row half tap) 7 (tag_split row half tap) (lit≤ tt)
    by_marks (StopPoints length) = other (StopPoints length) 9 (tag_stop length) (lit≤ tt)

-- ---- by the tag: 1 and 2 mark the row that the body begins with, and no other tag marks any

module _ (marks : List ℕ) where
  pub by_none : (c : Cycle) → 2 < tag_of c → marked_by c marks ≡ marks
  unfolding marked_by written_by marking
  by_none (WordWrite row column word masking mask strobes) h = absurd (omega (arith, tag_word row column word masking mask strobes))
  by_none (BlockWrite row column columns masking mask strobes) h = absurd (omega (arith, tag_block row column columns masking mask strobes))
  by_none (LoadColour word strobes) h = refl
  by_none (LoadMask word strobes) h = refl
  by_none ResetRefresh h = refl
  by_none (FullTransfer row half tap) h = refl
  by_none (SplitTransfer row half tap) h = refl
  by_none (StopPoints length) h = refl

  pub by_write : (t : ℕ) (b : List ℕ) → 1 ≤ t → t ≤ 2 → marked_by (cycle_of t b) marks ≡ mark (word b 0) marks
  unfolding marked_by written_by marking
  by_write zero b h k = absurd (omega arith)
  by_write (suc zero) b h k = rw (cycle_one b)
  by_write (suc (suc zero)) b h k = rw (cycle_two b)
  by_write (suc (suc (suc t))) b h k = absurd (omega arith)

-- ---- and after cycles in order

pub all_length : (l : List Cycle) (marks : List ℕ) → length (marked_by_all l marks) ≡ length marks
unfolding marked_by_all
all_length [] marks = refl
all_length (c ∷ l) marks = all_length l (marked_by c marks) ∙ by_length c marks

-- set exactly where it was set before, or one of them is a write that names the row
pub all_marks : (l : List Cycle) (marks : List ℕ) (q : ℕ) → q / 8 < length marks → is_marked (marked_by_all l marks) q ≡ (is_marked marks q || named_in q l)
unfolding marked_by_all named_in
all_marks [] marks q h = sym (or-false (is_marked marks q))
all_marks (c ∷ l) marks q h =
    all_marks l (marked_by c marks) q (rw (by_length c marks) h)
    ∙ ap (λ (t : Bool). t || named_in q l) (by_marks marks q h c)
    ∙ or_assoc (is_marked marks q) (names q c) (named_in q l)

pub all_append : (l k : List Cycle) (marks : List ℕ) → marked_by_all (l ++ k) marks ≡ marked_by_all k (marked_by_all l marks)
unfolding marked_by_all
all_append [] k marks = refl
all_append (c ∷ l) k marks = all_append l k (marked_by c marks)

-- ---- where no row is marked, none is

pub none_marked : (q : ℕ) → q ≤ 511 → is_marked no_marks q ≡ false
unfolding is_marked
none_marked q h = ap (λ (n : ℕ). bit n (q % 8)) (get_or-replicate 64 (q / 8) 0 0 (omega arith)) ∙ bit_none (q % 8)
