-- What holds where nothing is refused, and which numbers are given. Assumes nothing.
use Rattle.std.specs.Prelude.{◌≡◌, refl, Bool, true, false, ◌&&◌, ◌||◌, ◌⊎◌, ℕ, ◌+◌, ◌*◌, ◌/◌, ◌%◌, ◌≤◌, ◌<◌, eqb, leb, ltb}
use Rattle.std.proofs.Common.{sym, subst, true≢false, inl, inr, arith, eqb-true, leb-true, le-leb, ltb-true, lt-ltb}
use Rattle.numbers.specs.Refuse.{refuse}
use Rattle.numbers.specs.RefuseLaws.{refuse_zero}
use Rattle.numbers.specs.Between.{both}
use Rattle.refusals.specs.Refusal.{fitted, refusing, highest, strobes_ok, masking_ok, partition_ok, write_refusal, load_refusal, full_refusal, split_refusal, stop_refusal}

-- ---- so many rows are fitted

pub rows_fitted : (rows : ℕ) → 1 ≤ rows → rows ≤ 512 → fitted (512 * rows) ≡ true
rows_fitted rows h k =
    let e : 512 * rows % 512 ≡ 0 = omega arith in
    rw (le-leb 512 (512 * rows) (omega arith), le-leb (512 * rows) 262144 (omega arith), e)

-- ---- a write, which a word read shares

pub record Placed (rows row column : ℕ) : Type 0 where
  pub row_fitted : row < rows
  pub column_within : column ≤ 511

pub write_zero : (rows row column masking mask strobes : ℕ) → write_refusal rows row column masking mask strobes ≡ 0 → Placed rows row column
unfolding write_refusal
write_zero rows row column masking mask strobes e =
    let p = refuse_zero (ltb row rows) 4 _ e in
    let q = refuse_zero (leb column 511) 5 _ p.1 in
    record { row_fitted = ltb-true row rows p.0; column_within = leb-true column 511 q.0 }

-- the word, and the block, lie in the memory
pub word_within : (words row column : ℕ) → Placed (words / 512) row column → 512 * row + column < words
word_within words row column p = omega (arith, p.row_fitted, p.column_within)

pub block_within : (words row column : ℕ) → Placed (words / 512) row column → 512 * row + 4 * (column / 4) + 4 ≤ words
block_within words row column p = omega (arith, p.row_fitted, p.column_within)

-- ---- transfers

pub full_zero : (rows row half : ℕ) → full_refusal rows row half ≡ 0 → (row < rows) × (half ≤ 1)
unfolding full_refusal
full_zero rows row half e =
    let p = refuse_zero (ltb row rows) 4 _ e in
    let q = refuse_zero (leb half 1) 8 _ p.1 in
    (ltb-true row rows p.0, leb-true half 1 q.0)

pub record Split (rows : ℕ) (loaded : Bool) (row half tap : ℕ) : Type 0 where
  pub row_fitted : row < rows
  pub half_within : half ≤ 1
  pub tap_within : tap ≤ 127
  pub made : loaded ≡ true

pub split_zero : (rows : ℕ) (loaded : Bool) (row half tap : ℕ) → split_refusal rows loaded row half tap ≡ 0 → Split rows loaded row half tap
unfolding split_refusal
split_zero rows loaded row half tap e =
    let p = refuse_zero (ltb row rows) 4 _ e in
    let q = refuse_zero (leb half 1 && leb tap 127) 8 _ p.1 in
    let r = refuse_zero loaded 9 _ q.1 in
    let h = both (leb half 1) (leb tap 127) q.0 in
    record { row_fitted = ltb-true row rows p.0; half_within = leb-true half 1 h.0; tap_within = leb-true tap 127 h.1; made = r.0 }

-- the words of a transfer lie in the memory
pub transfer_within : (words row half h n : ℕ) → row < words / 512 → half ≤ 1 → h + n ≤ 256 → 512 * row + 256 * half + h + n ≤ words
transfer_within words row half h n r k l = omega arith

-- ---- stop points

-- what holds of each of the four lengths holds of every length that is not refused
module _ (P : ℕ → Type 0) (p16 : P 16) (p32 : P 32) (p64 : P 64) (p128 : P 128) where
  pub partition_cases : (n : ℕ) → partition_ok n ≡ true → P n
  partition_cases n h = go (eqb n 16) (eqb n 32) (eqb n 64) (eqb n 128) refl refl refl refl h
    where
      at : (k : ℕ) → P k → eqb n k ≡ true → P n
      at k p e = subst P (sym (eqb-true n k e)) p

      go : (a b c d : Bool) → eqb n 16 ≡ a → eqb n 32 ≡ b → eqb n 64 ≡ c → eqb n 128 ≡ d → (((a || b) || c) || d) ≡ true → P n
      go true b c d e f g i h = at 16 p16 e
      go false true c d e f g i h = at 32 p32 f
      go false false true d e f g i h = at 64 p64 g
      go false false false true e f g i h = at 128 p128 i
      go false false false false e f g i h = absurd (true≢false (sym h))

pub stop_zero : (length : ℕ) → stop_refusal length ≡ 0 → partition_ok length ≡ true
unfolding stop_refusal
stop_zero length e = (refuse_zero (partition_ok length) 18 0 e).0

-- ---- a write that is masked, with both strobes, in the rows fitted is not refused

pub masked_write : (rows row column mask : ℕ) → row < rows → column ≤ 511 → write_refusal rows row column 1 mask 3 ≡ 0
unfolding write_refusal
masked_write rows row column mask h k = rw (lt-ltb row rows h, le-leb column 511 k)

-- ---- what refuses a cycle is one of its numbers, 5 to 10 and 19

abbrev pub Range : ℕ → Type 0
Range n = (n ≡ 0) ⊎ (refusing n ≡ true)

within : (holds : Bool) (n later : ℕ) → refusing n ≡ true → Range later → Range (refuse holds n later)
within true n later p r = r
within false n later p r = inr p

pub write_among : (rows row column masking mask strobes : ℕ) → Range (write_refusal rows row column masking mask strobes)
unfolding write_refusal
write_among rows row column masking mask strobes =
    within (ltb row rows) 5 _ refl
    (within (leb column 511) 6 _ refl (within (strobes_ok strobes) 7 _ refl (within (masking_ok masking mask) 8 0 refl (inl refl))))

pub load_among : (strobes : ℕ) → Range (load_refusal strobes)
unfolding load_refusal
load_among strobes = within (strobes_ok strobes) 7 0 refl (inl refl)

pub full_among : (rows row half : ℕ) → Range (full_refusal rows row half)
unfolding full_refusal
full_among rows row half = within (ltb row rows) 5 _ refl (within (leb half 1) 9 0 refl (inl refl))

pub split_among : (rows : ℕ) (made : Bool) (row half tap : ℕ) → Range (split_refusal rows made row half tap)
unfolding split_refusal
split_among rows made row half tap = within (ltb row rows) 5 _ refl (within (leb half 1 && leb tap 127) 9 _ refl (within made 10 0 refl (inl refl)))

pub stop_among : (length : ℕ) → Range (stop_refusal length)
unfolding stop_refusal
stop_among length = within (partition_ok length) 19 0 refl (inl refl)

-- none is over the highest
pub refusing_most : (n : ℕ) → refusing n ≡ true → n ≤ highest
refusing_most n = go (leb 5 n && leb n 10) refl
  where
    go : (t : Bool) → (leb 5 n && leb n 10) ≡ t → (t || eqb n 19) ≡ true → n ≤ highest
    go true e h = omega (arith, leb-true n 10 (both (leb 5 n) (leb n 10) e).1)
    go false e h = omega (arith, eqb-true n 19 h)
