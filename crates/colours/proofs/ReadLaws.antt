-- The reads give back what was written, in 16 bits and in 8, and every other word reads as it did. Assumes nothing.
use Rattle.std.specs.Prelude.{◌≡◌, ◌≢◌, ℕ, ◌%◌, ◌≤◌, ◌<◌, set}
use Rattle.std.proofs.Math.Path.{refl}
use Rattle.std.proofs.Common.{ap, ◌∙◌, arith, length-set, get_or-set_same, get_or-set_other, List}
use Rattle.std.proofs.Math.ListN.{length, get_or}
use Rattle.numbers.specs.RefuseLaws.{leaves_holds}
use Rattle.colours.specs.declared.Colours.{Colours}
use Rattle.colours.specs.Table.{word_at, low_of, high_of, joined}
use Rattle.colours.specs.State.{low_waiting}
use Rattle.colours.specs.Calls.{write_refusal, high_refusal, Outcome, write_call, write_low_call, write_high_call, worded, byted, read_call, read_low_call, read_high_call}
use Rattle.colours.proofs.CallLaws.{Reached, Ready, write_makes, read_makes, read_low_makes, read_high_makes}
use Rattle.colours.proofs.WriteLaws.{joined_small, parts_agree}

-- a stored word of thirteen bits is what stands there
stored : (t : List ℕ) (address value : ℕ) → address < length t → value ≤ 8191 → word_at (set t address value) address ≡ value
stored t address value l h = rw (get_or-set_same t address value 0 l) (omega arith)

module _ (s : Colours) (t : List ℕ) (address value : ℕ) (r : Ready s (length t) address) (h : value ≤ 8191) where
  abbrev table_after : List ℕ
  table_after = (write_call s t address value).table

  after_is : table_after ≡ set t address value
  after_is = ap (λ (o : Outcome). o.table) (write_makes s t address value r h)

  here : word_at table_after address ≡ value
  here = ap (λ (l : List ℕ). word_at l address) after_is ∙ stored t address value (omega (arith, r.reached.table, r.reached.within)) h

  reached : Reached (length table_after) address
  reached = rw (after_is, length-set t address value) r.reached

  -- what was written, in 16 bits and in 8; with `parts_agree` the same of what was written in 8
  pub read_back : read_call table_after address ≡ worded 0 value
  read_back = read_makes table_after address reached ∙ ap (worded 0) here

  pub read_low_back : read_low_call table_after address ≡ byted 0 (low_of value)
  read_low_back = read_low_makes table_after address reached ∙ ap (λ (w : ℕ). byted 0 (low_of w)) here

  pub read_high_back : read_high_call table_after address ≡ byted 0 (high_of value)
  read_high_back = read_high_makes table_after address reached ∙ ap (λ (w : ℕ). byted 0 (high_of w)) here

-- the two parts of a word that was written in parts: the low one as it was, of the high one five bits
joined_low : (low high : ℕ) → low < 256 → low_of (joined low high) ≡ low
joined_low low high h = omega arith

joined_high : (low high : ℕ) → low < 256 → high_of (joined low high) ≡ high % 32
joined_high low high h = omega arith

module _ (s : Colours) (t : List ℕ) (address low high : ℕ) (r : Ready s (length t) address) (h : low < 256) where
  abbrev after_parts : List ℕ
  after_parts = (write_high_call (write_low_call s low).state t address high).table

  -- the table is that of the 16-bit write
  same : after_parts ≡ (write_call s t address (joined low high)).table
  same = ap (λ (o : Outcome). o.table) (parts_agree s t address r low high h)

  pub parts_read : read_call after_parts address ≡ worded 0 (joined low high)
  parts_read =
      ap (λ (l : List ℕ). read_call l address) same ∙ read_back s t address (joined low high) r (joined_small low high h)

  pub parts_read_low : read_low_call after_parts address ≡ byted 0 low
  parts_read_low =
      ap (λ (l : List ℕ). read_low_call l address) same
      ∙ read_low_back s t address (joined low high) r (joined_small low high h)
      ∙ ap (byted 0) (joined_low low high h)

  pub parts_read_high : read_high_call after_parts address ≡ byted 0 (high % 32)
  parts_read_high =
      ap (λ (l : List ℕ). read_high_call l address) same
      ∙ read_high_back s t address (joined low high) r (joined_small low high h)
      ∙ ap (byted 0) (joined_high low high h)

-- ---- every other word is as it was, and reads as it did, whatever was written, accepted or not

module _ (s : Colours) (t : List ℕ) (address : ℕ) where
  pub write_length : (value : ℕ) → length (write_call s t address value).table ≡ length t
  unfolding write_call
  write_length value =
      leaves_holds (λ (l : List ℕ). length l ≡ length t) (write_refusal s (length t) address value) t (set t address value)
      refl (length-set t address value)

  pub high_length : (high : ℕ) → length (write_high_call s t address high).table ≡ length t
  unfolding write_high_call
  high_length high =
      let word = joined (low_waiting s.waiting) high in
      leaves_holds (λ (l : List ℕ). length l ≡ length t) (high_refusal s (length t) address) t (set t address word)
      refl (length-set t address word)

  module _ (other : ℕ) (n : other ≢ address) where
    pub write_others : (value : ℕ) → get_or (write_call s t address value).table other 0 ≡ get_or t other 0
    unfolding write_call
    write_others value =
        leaves_holds (λ (l : List ℕ). get_or l other 0 ≡ get_or t other 0) (write_refusal s (length t) address value) t (set t address value)
        refl (get_or-set_other t address other value 0 n)

    pub high_others : (high : ℕ) → get_or (write_high_call s t address high).table other 0 ≡ get_or t other 0
    unfolding write_high_call
    high_others high =
        let word = joined (low_waiting s.waiting) high in
        leaves_holds (λ (l : List ℕ). get_or l other 0 ≡ get_or t other 0) (high_refusal s (length t) address) t (set t address word)
        refl (get_or-set_other t address other word 0 n)

-- all three reads at an address answer the same
abbrev pub ReadsAlike : List ℕ → List ℕ → ℕ → Type 0
ReadsAlike t u address =
    (read_call u address ≡ read_call t address) × (read_low_call u address ≡ read_low_call t address) × (read_high_call u address ≡ read_high_call t address)

-- so they do of tables of one length with one word there
read_alike : (t u : List ℕ) (address : ℕ) → length u ≡ length t → get_or u address 0 ≡ get_or t address 0 → ReadsAlike t u address
unfolding read_call read_low_call read_high_call
read_alike t u address l e = (rw (l, e), rw (l, e), rw (l, e))

pub write_reads_others : (s : Colours) (t : List ℕ) (address value other : ℕ) → other ≢ address
    → ReadsAlike t (write_call s t address value).table other
write_reads_others s t address value other n =
    read_alike t (write_call s t address value).table other (write_length s t address value) (write_others s t address other n value)

pub high_reads_others : (s : Colours) (t : List ℕ) (address high other : ℕ) → other ≢ address
    → ReadsAlike t (write_high_call s t address high).table other
high_reads_others s t address high other n =
    read_alike t (write_high_call s t address high).table other (high_length s t address high) (high_others s t address other n high)

-- zeros above bit 4 of a high read, refused or not
pub high_read_small : (t : List ℕ) (address : ℕ) → (read_high_call t address).byte < 32
unfolding read_high_call
high_read_small t address = omega arith
