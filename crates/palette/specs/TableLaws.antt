-- Laws of the palette's table. Assumes nothing.
use Rattle.std.specs.Prelude.{◌≡◌, ℕ, suc, ◌+◌, ◌*◌, ◌<◌, ◌≢◌, List, [], ◌∷◌, ◌++◌, map, length, drop, slice_index, slice_set, refl}
use Rattle.std.proofs.Common.{sym, ap, ◌∙◌, subst, append-nil, arith, length-set, get_or-set_same, get_or-set_other, drop-cons}
use Rattle.std.proofs.Math.ListN.{get_or-map}
use Rattle.std.proofs.Math.Seq.{drop-length}
use Rattle.std.proofs.lemmas.List.Edits.{sets}
use Rattle.numbers.specs.BufferLaws.{sets_append, stores_sets, over_sets}
use Rattle.palette.specs.Table.{Colour, six, entry, gives, store}

module _ (t : List ℕ) (e : ℕ) (c : Colour) where
  pub store_length : length (store t e c) ≡ length t
  store_length = simp length-set

  -- ---- the entry holds the colour

  -- the table with red stored, and with red and green
  abbrev one : List ℕ
  one = slice_set t (3 * e) c.red

  abbrev two : List ℕ
  two = slice_set one (3 * e + 1) c.green

  two_length : length two ≡ length t
  two_length = simp length-set

  store_red : 3 * e + 2 < length t → slice_index (store t e c) (3 * e) ≡ c.red
  store_red h =
      get_or-set_other two (3 * e + 2) (3 * e) c.blue 0 (λ z. omega arith)
      ∙ get_or-set_other one (3 * e + 1) (3 * e) c.green 0 (λ z. omega arith)
      ∙ get_or-set_same t (3 * e) c.red 0 (omega arith)

  store_green : 3 * e + 2 < length t → slice_index (store t e c) (3 * e + 1) ≡ c.green
  store_green h =
      get_or-set_other two (3 * e + 2) (3 * e + 1) c.blue 0 (λ z. omega arith)
      ∙ get_or-set_same one (3 * e + 1) c.green 0 (rw (length-set t (3 * e) c.red) (omega arith))

  store_blue : 3 * e + 2 < length t → slice_index (store t e c) (3 * e + 2) ≡ c.blue
  store_blue h = get_or-set_same two (3 * e + 2) c.blue 0 (rw two_length h)

  pub store_here : 3 * e + 2 < length t → entry (store t e c) e ≡ c
  store_here h = rw (store_red h, store_green h, store_blue h)

  -- ---- every other entry is as it was

  store_byte : (i : ℕ) → i ≢ 3 * e → i ≢ 3 * e + 1 → i ≢ 3 * e + 2 → slice_index (store t e c) i ≡ slice_index t i
  store_byte i r g b =
      get_or-set_other two (3 * e + 2) i c.blue 0 b
      ∙ get_or-set_other one (3 * e + 1) i c.green 0 g
      ∙ get_or-set_other t (3 * e) i c.red 0 r

  -- byte k of an entry
  store_part : (f k : ℕ) → f ≢ e → k < 3 → slice_index (store t e c) (3 * f + k) ≡ slice_index t (3 * f + k)
  store_part f k n h = store_byte (3 * f + k) (λ z. n (omega arith)) (λ z. n (omega arith)) (λ z. n (omega arith))

  pub store_other : (f : ℕ) → f ≢ e → entry (store t e c) f ≡ entry t f
  store_other f n =
      rw (
        store_byte (3 * f) (λ z. n (omega arith)) (λ z. n (omega arith)) (λ z. n (omega arith)),
        store_part f 1 n (omega arith),
        store_part f 2 n (omega arith),
      )

-- ---- entries one after the other

-- the bytes from entry e on: its own, and those from the next
pub drop_entry : (t : List ℕ) (e : ℕ) → 3 * e + 2 < length t
    → drop (3 * e) t ≡ slice_index t (3 * e) ∷ slice_index t (3 * e + 1) ∷ slice_index t (3 * e + 2) ∷ drop (3 * suc e) t
drop_entry t e h =
    let green : suc (3 * e) ≡ 3 * e + 1 = omega arith in
    let blue : suc (3 * e + 1) ≡ 3 * e + 2 = omega arith in
    let next : suc (3 * e + 2) ≡ 3 * suc e = omega arith in
    rw (
      drop-cons t (3 * e) 0 (omega arith),
      green,
      drop-cons t (3 * e + 1) 0 (omega arith),
      blue,
      drop-cons t (3 * e + 2) 0 h,
      next,
    )

-- what entry e + 1 gives is what entry e gives without the first three bytes
pub gives_later : (r g b : ℕ) (l : List ℕ) (e : ℕ) → gives (r ∷ g ∷ b ∷ l) (suc e) ≡ gives l e
gives_later r g b l e =
    let red : 3 * suc e ≡ suc (suc (suc (3 * e))) = omega arith in
    let green : 3 * suc e + 1 ≡ suc (suc (suc (3 * e + 1))) = omega arith in
    let blue : 3 * suc e + 2 ≡ suc (suc (suc (3 * e + 2))) = omega arith in
    rw (green, blue, red)

-- an entry stored and bytes from the next on are its three bytes and those
pub store_sets : (t : List ℕ) (e : ℕ) (c : Colour) (l : List ℕ)
    → sets (store t e c) (3 * suc e) l ≡ sets t (3 * e) (c.red ∷ c.green ∷ c.blue ∷ l)
store_sets t e c l =
    let next : 3 * suc e ≡ 3 * e + 3 = omega arith in
    rw (next, stores_sets c.red t (c.green ∷ c.blue ∷ []) (3 * e)) (sets_append (c.red ∷ c.green ∷ c.blue ∷ []) l t (3 * e))

-- as many bytes as the table has are the whole table
pub sets_all : (t l : List ℕ) → length l ≡ length t → sets t 0 l ≡ l
sets_all t l e =
    let spare : drop (length l) t ≡ [] = subst (λ (n : ℕ). drop n t ≡ []) (sym e) (drop-length t) in
    over_sets l t (omega (arith, e)) ∙ ap (λ (r : List ℕ). l ++ r) spare ∙ append-nil l

-- ---- a table of six bits

pub six_twice : (byte : ℕ) → six (six byte) ≡ six byte
six_twice byte = omega arith

-- gives the same colours: only the low six bits of a byte are read
pub gives_six : (t : List ℕ) (e : ℕ) → gives (map six t) e ≡ gives t e
gives_six t e = rw (part (3 * e), part (3 * e + 1), part (3 * e + 2))
  where
    part : (i : ℕ) → six (slice_index (map six t) i) ≡ six (slice_index t i)
    part i = ap six (get_or-map six t i 0) ∙ six_twice (slice_index t i)

-- and is a table of six bits already
pub sixes_twice : (t : List ℕ) → map six (map six t) ≡ map six t
sixes_twice [] = refl
sixes_twice (b ∷ t) = rw (six_twice b, sixes_twice t)
