-- The number that each call gives: 1, 3, 21, 22, in this order. Assumes nothing.
use Rattle.std.specs.Prelude.{◌≡◌, Bool, false, ◌&&◌, List, ◌≢◌, ◌⊎◌, ℕ, ◌≤◌, ◌<◌, eqb, length}
use Rattle.std.proofs.Math.Bool.{true, and-false}
use Rattle.std.proofs.Common.{inl, inr, arith, eqb-true, ne_eqb, le-leb}
use Rattle.std.proofs.Math.Dec.{leb}
use borrow.Author.Tests.{lt-leb}
use Rattle.numbers.specs.Refuse.{refuse}
use Rattle.numbers.specs.RefuseLaws.{refuse_zero}
use Rattle.colours.specs.declared.Colours.{Colours}
use Rattle.colours.specs.declared.Inputs.{Inputs}
use Rattle.colours.specs.State.{waits, ruled}
use Rattle.colours.specs.Calls.{table_refusal, write_refusal, low_refusal, high_refusal, read_refusal, pixel_refusal, write_call, write_low_call, write_high_call, read_call, read_low_call, read_high_call, pixel_call}

-- ---- 3, 21 and 22, in this order

module _ (words : ℕ) (within waits : Bool) where
  table_3 : words ≢ 64 → table_refusal words within waits ≡ 3
  table_3 w = rw (ne_eqb words 64 w)

  table_21 : words ≡ 64 → within ≡ false → table_refusal words within waits ≡ 21
  table_21 w a = rw (w, a)

  pub table_0 : words ≡ 64 → within ≡ true → waits ≡ true → table_refusal words within waits ≡ 0
  table_0 w a l = rw (w, a, l)

  pub table_zero : table_refusal words within waits ≡ 0 → (words ≡ 64) × (within ≡ true) × (waits ≡ true)
  table_zero e =
      let f = refuse_zero (eqb words 64) 2 (refuse within 21 (refuse waits 22 0)) e in
      let g = refuse_zero within 20 (refuse waits 22 0) f.1 in
      (eqb-true words 64 f.0, g.0, (refuse_zero waits 21 0 g.1).0)

  -- 1 is the state's alone
  table_not_1 : table_refusal words within waits ≢ 1
  table_not_1 = go (eqb words 64) within waits
    where
      go : (b p w : Bool) → refuse b 3 (refuse p 21 (refuse w 22 0)) ≢ 1
      go true true true e = absurd (omega arith)
      go true true false e = absurd (omega arith)
      go true false w e = absurd (omega arith)
      go false p w e = absurd (omega arith)

-- ---- the number of each call: 1, 3, 21, 22, in this order

module _ (s : Colours) (t : List ℕ) (address value : ℕ) where
  pub write_1 : ruled s ≡ false → (write_call s t address value).answer.number ≡ 1
  unfolding write_call write_refusal
  write_1 r = rw r

  module _ (r : ruled s ≡ true) where
    pub write_3 : length t ≢ 64 → (write_call s t address value).answer.number ≡ 3
    unfolding write_call write_refusal
    write_3 w = rw r (table_3 (length t) (leb address 63 && leb value 8191) true w)

    pub write_21 : length t ≡ 64 → (63 < address) ⊎ (8191 < value) → (write_call s t address value).answer.number ≡ 21
    unfolding write_call write_refusal
    write_21 w (inl h) = rw r (table_21 (length t) (leb address 63 && leb value 8191) true w (rw (lt-leb address 63 h)))
    write_21 w (inr h) =
        rw r (table_21 (length t) (leb address 63 && leb value 8191) true w (rw (lt-leb value 8191 h) (and-false (leb address 63))))

    pub write_not_1 : (write_call s t address value).answer.number ≢ 1
    unfolding write_call write_refusal
    write_not_1 = rw r (table_not_1 (length t) (leb address 63 && leb value 8191) true)

pub low_accepted : (s : Colours) → ruled s ≡ true → low_refusal s ≡ 0
unfolding low_refusal
low_accepted s r = rw r

module _ (s : Colours) (low : ℕ) where
  pub low_1 : ruled s ≡ false → (write_low_call s low).number ≡ 1
  unfolding write_low_call low_refusal
  low_1 r = rw r

  pub low_0 : ruled s ≡ true → (write_low_call s low).number ≡ 0
  unfolding write_low_call
  low_0 r = low_accepted s r

module _ (s : Colours) (t : List ℕ) (address high : ℕ) where
  pub high_1 : ruled s ≡ false → (write_high_call s t address high).answer.number ≡ 1
  unfolding write_high_call high_refusal
  high_1 r = rw r

  module _ (r : ruled s ≡ true) where
    pub high_3 : length t ≢ 64 → (write_high_call s t address high).answer.number ≡ 3
    unfolding write_high_call high_refusal
    high_3 w = rw r (table_3 (length t) (leb address 63) (waits s.waiting) w)

    -- whether a low part waits or not
    pub high_21 : length t ≡ 64 → 63 < address → (write_high_call s t address high).answer.number ≡ 21
    unfolding write_high_call high_refusal
    high_21 w h = rw r (table_21 (length t) (leb address 63) (waits s.waiting) w (lt-leb address 63 h))

    pub high_22 : length t ≡ 64 → address ≤ 63 → waits s.waiting ≡ false → (write_high_call s t address high).answer.number ≡ 22
    unfolding write_high_call high_refusal
    high_22 w h l = rw (r, w, le-leb address 63 h, l)

    pub high_not_1 : (write_high_call s t address high).answer.number ≢ 1
    unfolding write_high_call high_refusal
    high_not_1 = rw r (table_not_1 (length t) (leb address 63) (waits s.waiting))

module _ (t : List ℕ) (address : ℕ) where
  read_number_3 : length t ≢ 64 → read_refusal (length t) address ≡ 3
  unfolding read_refusal
  read_number_3 w = table_3 (length t) (leb address 63) true w

  read_number_21 : length t ≡ 64 → 63 < address → read_refusal (length t) address ≡ 21
  unfolding read_refusal
  read_number_21 w h = table_21 (length t) (leb address 63) true w (lt-leb address 63 h)

  -- of all three reads
  pub read_3 : length t ≢ 64
      → ((read_call t address).number ≡ 3) × ((read_low_call t address).number ≡ 3) × ((read_high_call t address).number ≡ 3)
  unfolding read_call read_low_call read_high_call
  read_3 w = (read_number_3 w, read_number_3 w, read_number_3 w)

  pub read_21 : length t ≡ 64 → 63 < address
      → ((read_call t address).number ≡ 21) × ((read_low_call t address).number ≡ 21) × ((read_high_call t address).number ≡ 21)
  unfolding read_call read_low_call read_high_call
  read_21 w h = (read_number_21 w h, read_number_21 w h, read_number_21 w h)

module _ (s : Colours) (t : List ℕ) (i : Inputs) where
  pub pixel_1 : ruled s ≡ false → (pixel_call s t i).number ≡ 1
  unfolding pixel_call pixel_refusal read_refusal
  pixel_1 r = rw r

  module _ (r : ruled s ≡ true) where
    pub pixel_3 : length t ≢ 64 → (pixel_call s t i).number ≡ 3
    unfolding pixel_call pixel_refusal read_refusal
    pixel_3 w = rw r (table_3 (length t) (leb i.address 63) true w)

    -- whatever else the inputs are
    pub pixel_21 : length t ≡ 64 → 63 < i.address → (pixel_call s t i).number ≡ 21
    unfolding pixel_call pixel_refusal read_refusal
    pixel_21 w h = rw r (table_21 (length t) (leb i.address 63) true w (lt-leb i.address 63 h))

    pub pixel_not_1 : (pixel_call s t i).number ≢ 1
    unfolding pixel_call pixel_refusal read_refusal
    pixel_not_1 = rw r (table_not_1 (length t) (leb i.address 63) true)
