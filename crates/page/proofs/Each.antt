-- The fills of a page: not refused where the page is not, and of numbers that a C program can give. Assumes nothing.
use Rattle.std.specs.Prelude.{ℕ, zero, suc, ◌+◌, ◌≤◌, ◌<◌, ◌≡◌, refl, Bool, true, false, cond, get_or, take, drop}
use Rattle.std.proofs.Common.{sym, ◌∙◌, subst, ⊎_elim, arith, List, [], ◌∷◌, ◌++◌}
use mathlib.Core.List.Memᴰ
use mathlib.Core.List.{Memᴰ}
use Rattle.list.proofs.SplitLaws.{word_wide, split_from}
use Rattle.planner.specs.Fill.{Fill}
use Rattle.planner.specs.Calls.{asked_refusal}
use Rattle.planner.proofs.CallLaws.{asked_plain}
use Rattle.planner.specs.Paint.{Wide}
use Rattle.page.specs.Rectangles.{rectangle_of, Item, Names, Unreadable, body, whole, item_of, items, fill_of}
use Rattle.page.specs.Calls.{fills, fills_of, number_of, verdict, page_call}
use Rattle.page.proofs.CallLaws.{accepted_head, accepted_tail, page_number, accepted}

-- each of some fills is such
abbrev pub Each : (Fill → Type 0) → List Fill → Type 0
Each P fs = (f : Fill) → Memᴰ f fs → P f

module _ {P : Fill → Type 0} {f : Fill} {fs : List Fill} (e : Each P (f ∷ fs)) where
  pub each_first : P f
  each_first = e f (Memᴰ.head refl)

  pub each_later : Each P fs
  each_later g m = e g (Memᴰ.tail m)

each_none : (P : Fill → Type 0) → Each P []
each_none P f m = absurd (Memᴰ.not-nil m)

each_more : (P : Fill → Type 0) (f : Fill) (fs : List Fill) → P f → Each P fs → Each P (f ∷ fs)
each_more P f fs p e g m = ⊎_elim (λ (q : g ≡ f). subst P (sym q) p) (e g) (Memᴰ.cases_cons m)

-- of joined fills, those of each part
pub each_left : {P : Fill → Type 0} (fs gs : List Fill) → Each P (fs ++ gs) → Each P fs
each_left {P} [] gs e = each_none P
each_left {P} (f ∷ fs) gs e = each_more P f fs (each_first e) (each_left fs gs (each_later e))

pub each_right : {P : Fill → Type 0} (fs gs : List Fill) → Each P (fs ++ gs) → Each P gs
each_right [] gs e = e
each_right (f ∷ fs) gs e = each_right fs gs (each_later e)

-- one that stands between others is one of them
pub mem_middle : (before : List Fill) (f : Fill) (after : List Fill) → Memᴰ f (before ++ (f ∷ after))
mem_middle [] f after = Memᴰ.head refl
mem_middle (g ∷ before) f after = Memᴰ.tail (mem_middle before f after)

-- ---- where no field is refused, each fill has the rows fitted and is not refused

pub record Good (rows : ℕ) (f : Fill) : Type 0 where
  pub fitted : f.rows ≡ rows
  pub asked : asked_refusal f ≡ 0

items_good : (rows : ℕ) → 1 ≤ rows → rows ≤ 512 → (l : List Item) (at : ℕ) → (verdict rows at l).number ≡ 0 → Each (Good rows) (fills rows l)
unfolding fills number_of
items_good rows least most [] at h = each_none (Good rows)
items_good rows least most (Names r ∷ l) at h =
    each_more (Good rows) (fill_of rows r) (fills rows l)
    (record { fitted = refl; asked = asked_plain (fill_of rows r) least most refl ∙ accepted_head rows at (Names r) l h })
    (items_good rows least most l (at + 15) (accepted_tail rows at (Names r) l h))
items_good rows least most (Unreadable ∷ l) at h = items_good rows least most l (at + 15) (accepted_tail rows at Unreadable l h)

pub page_good : (rows persistent : ℕ) (rectangles out : List ℕ) → (page_call rows persistent rectangles out).answer.number ≡ 0
    → Each (Good rows) (fills_of rows rectangles)
page_good rows persistent rectangles out z =
    let a = accepted rows persistent rectangles out (sym (page_number rows persistent rectangles out) ∙ z) in
    items_good rows a.least a.most (items rectangles) 0 a.fields

-- ---- where each byte is below 256, each fill's mask and colour have 16 bits

abbrev pub Bytes : List ℕ → Type 0
Bytes s = (i : ℕ) → get_or s i 0 < 256

bytes_drop : (n : ℕ) (s : List ℕ) → Bytes s → Bytes (drop n s)
bytes_drop zero s h = h
bytes_drop (suc n) [] h = h
bytes_drop (suc n) (x ∷ s) h = bytes_drop n s (λ i. h (suc i))

bytes_take : (n : ℕ) (s : List ℕ) → Bytes s → Bytes (take n s)
bytes_take zero s h i = omega arith
bytes_take (suc n) [] h i = h i
bytes_take (suc n) (x ∷ s) h zero = h 0
bytes_take (suc n) (x ∷ s) h (suc i) = bytes_take n s (λ j. h (suc j)) i

abbrev WideItem : Item → Type 0
WideItem (Names r) = (r.mask < 65536) × (r.colour < 65536)
WideItem Unreadable = Unit

item_wide : (s : List ℕ) → Bytes s → WideItem (item_of s)
unfolding item_of rectangle_of
item_wide s h = go (whole s)
  where
    b : Bytes (body s)
    b = bytes_take 12 (drop 3 s) (bytes_drop 3 s h)

    go : (t : Bool) → WideItem (cond t (Names (rectangle_of (body s))) Unreadable)
    go true = (word_wide (body s) 8 b, word_wide (body s) 10 b)
    go false = tt

items_wide : (s : List ℕ) → Bytes s → (i : Item) → Memᴰ i (items s) → WideItem i
items_wide s h i m =
    let r = split_from item_of whole (λ b. 14) 0 s i m in
    subst WideItem (sym r.1) (item_wide (drop r.0 s) (bytes_drop r.0 s h))

fills_wide : (rows : ℕ) (l : List Item) → ((i : Item) → Memᴰ i l → WideItem i) → Each Wide (fills rows l)
unfolding fills
fills_wide rows [] w = each_none Wide
fills_wide rows (Names r ∷ l) w =
    let b = w (Names r) (Memᴰ.head refl) in
    each_more Wide (fill_of rows r) (fills rows l) (record { mask = b.0; colour = b.1 }) (fills_wide rows l (λ i k. w i (Memᴰ.tail k)))
fills_wide rows (Unreadable ∷ l) w = fills_wide rows l (λ i k. w i (Memᴰ.tail k))

pub page_wide : (rows : ℕ) (rectangles : List ℕ) → Bytes rectangles → Each Wide (fills_of rows rectangles)
page_wide rows rectangles h = fills_wide rows (items rectangles) (items_wide rectangles h)
