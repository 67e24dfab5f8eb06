-- The rectangles of a page: fields of tag 8 and length 12, six numbers of two bytes each. Change request M-103. Assumes nothing.
use Rattle.std.specs.Prelude.{ℕ, Bool, ◌&&◌, cond, List, [], ◌∷◌, ◌++◌, eqb, take, drop}
use Rattle.list.specs.Tags.{byte, word}
use Rattle.list.specs.Encode.{two}
use Rattle.list.specs.Splits.{sized, split}
use Rattle.planner.specs.Fill.{Fill, fill}
use Rattle.page.specs.declared.Rectangle.{Rectangle}

-- what a body says
unfoldable pub rectangle_of : List ℕ → Rectangle
rectangle_of b =
    record {
      first_row = word b 0;
      end_row = word b 2;
      first_column = word b 4;
      end_column = word b 6;
      mask = word b 8;
      colour = word b 10;
    }

-- a rectangle, or a field that cannot be read
pub data Item : Type 0 where
  Names : Rectangle → Item
  Unreadable : Item

-- ---- the field at the head of some bytes

abbrev pub body : List ℕ → List ℕ
body s = take 12 (drop 3 s)

unfoldable pub whole : List ℕ → Bool
whole s = eqb (byte s 0) 8 && sized s 12

unfoldable pub item_of : List ℕ → Item
item_of s = cond (whole s) (Names (rectangle_of (body s))) Unreadable

-- ---- all fields; nothing is read after one that cannot be

abbrev pub items : List ℕ → List Item
items s = split item_of whole (λ b. 14) 0 s

-- ---- rectangles as bytes, as a host names them

unfoldable pub rectangle_bytes : Rectangle → List ℕ
rectangle_bytes r =
    8 ∷ two 12 (two r.first_row (two r.end_row (two r.first_column (two r.end_column (two r.mask (two r.colour []))))))

unfoldable pub page_bytes : List Rectangle → List ℕ
page_bytes [] = []
page_bytes (r ∷ rs) = rectangle_bytes r ++ page_bytes rs

-- ---- the fill of a rectangle, with the rows fitted and the mask not persistent

abbrev pub fill_of : ℕ → Rectangle → Fill
fill_of rows r = fill rows r.first_row r.end_row r.first_column r.end_column r.mask r.colour 0
