-- Laws of the rectangles as fields. Assumes nothing.
use Rattle.std.specs.Prelude.{ℕ, ◌≤◌, ◌<◌, ◌≡◌, Bool, true, false, List, [], ◌∷◌, ◌++◌, map, eqb, drop}
use Rattle.std.proofs.Math.Path.{refl}
use Rattle.std.proofs.Common.{ap, ap₂, ◌∙◌, arith, eq-eqb}
use Rattle.std.proofs.Math.ListN.{length}
use Rattle.numbers.specs.Between.{both}
use Rattle.list.specs.Tags.{byte, word}
use Rattle.list.specs.Splits.{sized}
use Rattle.list.proofs.SplitLaws.{word_two, sized_length, sized_is, split_nil, split_good, split_not}
use Rattle.page.specs.declared.Rectangle.{Rectangle}
use Rattle.page.specs.Rectangles.{rectangle_of, Item, Names, Unreadable, body, whole, item_of, items, rectangle_bytes, page_bytes}

module _ (s : List ℕ) (h : whole s ≡ true) where
  -- its bytes are there
  pub whole_length : 15 ≤ length s
  unfolding whole
  whole_length = sized_length s 12 (both (eqb (byte s 0) 8) (sized s 12) h).1

  pub item_whole : item_of s ≡ Names (rectangle_of (body s))
  unfolding item_of
  item_whole = rw h

pub item_not : (s : List ℕ) → whole s ≡ false → item_of s ≡ Unreadable
unfolding item_of
item_not s h = rw h

-- ---- the fields of some bytes: the one at the head, then those of what follows it

pub items_nil : (s : List ℕ) → length s ≤ 0 → items s ≡ []
items_nil = split_nil item_of whole (λ b. 14)

pub items_whole : (s : List ℕ) → whole s ≡ true → items s ≡ item_of s ∷ items (drop 15 s)
items_whole s h = split_good item_of whole (λ b. 14) s (omega (arith, whole_length s h)) h

pub items_not : (s : List ℕ) → 0 < length s → whole s ≡ false → items s ≡ item_of s ∷ []
items_not = split_not item_of whole (λ b. 14)

-- whichever it is, the one at the head comes first
pub items_begin : (s : List ℕ) → 0 < length s → (l : List Item) × (items s ≡ item_of s ∷ l)
items_begin s p = go (whole s) refl
  where
    go : (t : Bool) → whole s ≡ t → (l : List Item) × (items s ≡ item_of s ∷ l)
    go true q = (items (drop 15 s), items_whole s q)
    go false q = ([], items_not s p q)

-- ---- what is written is read back

module _ (r : Rectangle) (t : List ℕ) where
  whole_written : whole (rectangle_bytes r ++ t) ≡ true
  unfolding whole rectangle_bytes
  whole_written =
      let l : 15 ≤ length (rectangle_bytes r ++ t) = omega arith in
      sized_is (rectangle_bytes r ++ t) 12 l ∙ eq-eqb (word (rectangle_bytes r ++ t) 1) 12 (word_two 12 (rectangle_bytes r ++ t) 1 refl refl)

  read_back : rectangle_of (body (rectangle_bytes r ++ t)) ≡ r
  unfolding rectangle_bytes rectangle_of
  read_back =
      let b = body (rectangle_bytes r ++ t) in
      rw (
        word_two r.first_row b 0 refl refl,
        word_two r.end_row b 2 refl refl,
        word_two r.first_column b 4 refl refl,
        word_two r.end_column b 6 refl refl,
        word_two r.mask b 8 refl refl,
        word_two r.colour b 10 refl refl,
      )

  item_written : item_of (rectangle_bytes r ++ t) ≡ Names r
  item_written = item_whole (rectangle_bytes r ++ t) whole_written ∙ ap Names read_back

pub items_written : (rs : List Rectangle) → items (page_bytes rs) ≡ map Names rs
unfolding page_bytes rectangle_bytes
items_written [] = items_nil [] (omega arith)
items_written (r ∷ rs) =
    items_whole (rectangle_bytes r ++ page_bytes rs) (whole_written r (page_bytes rs))
    ∙ ap₂ (λ (i : Item) (l : List Item). i ∷ l) (item_written r (page_bytes rs)) (items_written rs)
