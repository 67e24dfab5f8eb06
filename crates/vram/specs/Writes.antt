-- What a cycle writes to the memory, as one record: laws about the memory then need no cases on the cycle. Assumes nothing.
use Rattle.std.specs.Prelude.{◌≡◌, ℕ, ◌+◌, ◌-◌, ◌*◌, ◌/◌, ◌<◌, ◌≤◌, Bool, true, false, cond, ◌&&◌, ◌≢◌, ◌⊎◌, List, length, take, drop, nat_lt, slice_index, refl}
use Rattle.std.proofs.Common.{ap, ◌∙◌, inl, inr, arith, ltb-true, ltb-false}
use Rattle.std.proofs.Math.ListN.{get_or-eq_default}
use Rattle.words.specs.Bit.{bit}
use Rattle.words.specs.Word.{merged, lets}
use Rattle.words.specs.WordLaws.{merged_lt, merged_bit}
use Rattle.vram.specs.declared.Vram.{Vram}
use Rattle.vram.specs.declared.Cycle.{Cycle}
use Rattle.vram.specs.declared.Cycle.TheVariants.{WordWrite, BlockWrite, LoadColour, LoadMask, ResetRefresh, FullTransfer, SplitTransfer, StopPoints}
use Rattle.vram.specs.Memory.{Words, puts}
use Rattle.vram.specs.MemoryLaws.{puts_length, among, puts_at, puts_part}
use Rattle.vram.specs.Board.{allowed}

-- `count` words of a row from a column on take pen's bits, word j through `through j`
pub record Writes : Type 0 where
  pub row : ℕ
  pub column : ℕ
  pub pen : ℕ
  pub through : ℕ → ℕ → Bool
  pub count : ℕ

abbrev pub nothing : Writes
nothing = record { row = 0; column = 0; pen = 0; through = λ j b. false; count = 0 }

unfoldable pub writes : Cycle → Vram → Writes
writes (WordWrite row column word masking mask strobes) s =
    record { row = row; column = column; pen = word; through = λ j b. allowed s masking mask strobes b; count = 1 }
writes (BlockWrite row column columns masking mask strobes) s =
    record {
      row = row;
      column = 4 * (column / 4);
      pen = s.colour;
      through = λ j b. lets columns j b && allowed s masking mask strobes b;
      count = 4;
    }
writes (LoadColour word strobes) s = nothing
writes (LoadMask word strobes) s = nothing
writes ResetRefresh s = nothing
writes (FullTransfer row half tap) s = nothing
writes (SplitTransfer row half tap) s = nothing
writes (StopPoints length) s = nothing

abbrev pub base : Writes → ℕ
base w = 512 * w.row + w.column

abbrev pub written : Writes → List ℕ → List ℕ
written w m = puts m (base w) w.pen w.through w.count

-- ---- laws, without cases on the cycle

module _ (w : Writes) (m : List ℕ) where
  pub written_length : length (written w m) ≡ length m
  written_length = puts_length m (base w) w.pen w.through w.count

  pub written_at : (a : ℕ) → a < length m
      → slice_index (written w m) a ≡ cond (among (base w) w.count a) (merged (slice_index m a) w.pen (w.through (a - base w))) (slice_index m a)
  written_at a h = puts_at m (base w) w.pen w.through a h w.count

  -- each bit that must change changes, every other bit stays
  pub written_bit : (a i : ℕ) → a < length m → i < 16
      → bit (slice_index (written w m) a) i
      ≡ cond (among (base w) w.count a && w.through (a - base w) i) (bit w.pen i) (bit (slice_index m a) i)
  written_bit a i h k = ap (λ (n : ℕ). bit n i) (written_at a h) ∙ go (among (base w) w.count a)
    where
      go : (t : Bool) → bit (cond t (merged (slice_index m a) w.pen (w.through (a - base w))) (slice_index m a)) i
          ≡ cond (t && w.through (a - base w) i) (bit w.pen i) (bit (slice_index m a) i)
      go true = merged_bit (slice_index m a) w.pen (w.through (a - base w)) i k
      go false = refl

  -- words of 16 bits stay such
  pub written_words : Words m → Words (written w m)
  written_words h a = go (nat_lt a (length m)) refl
    where
      word : (t : Bool) → cond t (merged (slice_index m a) w.pen (w.through (a - base w))) (slice_index m a) < 65536
      word true = merged_lt (slice_index m a) w.pen (w.through (a - base w))
      word false = h a

      go : (t : Bool) → nat_lt a (length m) ≡ t → slice_index (written w m) a < 65536
      go true e = rw (written_at a (ltb-true _ _ e)) (word (among (base w) w.count a))
      go false e =
          let l : length m ≤ a = ltb-false _ _ e in
          let k : length (written w m) ≤ a = omega (arith, written_length) in
          rw (get_or-eq_default (written w m) 0 k) (omega arith)

-- the words of row r
abbrev pub row_of : ℕ → List ℕ → List ℕ
row_of r m = take 512 (drop (512 * r) m)

-- words of another row lie outside
apart : (row r x k : ℕ) → row ≢ r → x + k ≤ 512 → (512 * row + x + k ≤ 512 * r) ⊎ (512 * r + 512 ≤ 512 * row + x)
apart row r x k ne h = go (nat_lt row r) refl
  where
    go : (t : Bool) → nat_lt row r ≡ t → (512 * row + x + k ≤ 512 * r) ⊎ (512 * r + 512 ≤ 512 * row + x)
    go true e = let z : row < r = ltb-true row r e in inl (omega arith)
    go false e = let z : r ≤ row = ltb-false row r e in inr (omega arith)

pub written_row : (w : Writes) (m : List ℕ) (r : ℕ) → w.row ≢ r → w.column + w.count ≤ 512 → row_of r (written w m) ≡ row_of r m
written_row w m r n h = puts_part (512 * r) 512 m (base w) w.pen w.through w.count (apart w.row r w.column w.count n h)
