-- Laws of the splitting into fields of any kind. Assumes nothing.
use Rattle.std.specs.Prelude.{◌≡◌, Bool, eqb, leb, get_or, drop}
use Rattle.std.proofs.Math.Path.{refl}
use Rattle.std.proofs.Common.{ap, div-add-mod', List, [], ◌∷◌, ℕ, zero, suc, ◌+◌, ◌*◌, ◌/◌, ◌%◌, ◌≤◌, ◌<◌, arith, leb-true, le-leb}
use Rattle.std.proofs.Math.Bool.{true, false, cond}
use mathlib.Core.List.Memᴰ
use mathlib.Core.List.{Memᴰ}
use Rattle.std.proofs.Math.Logic.{⊎_elim}
use Rattle.std.proofs.Math.ListN.{length, get_or-eq_default}
use Rattle.std.proofs.Math.Seq.{drop-nil}
use borrow.Author.Tests.{lt-leb}
use Rattle.numbers.specs.Between.{both}
use Rattle.list.specs.Tags.{byte, word}
use Rattle.list.specs.Splits.{sized, split}

-- ---- numbers at the end of some bytes and past it

module _ (s : List ℕ) (i : ℕ) where
  pub word_past : length s ≤ i → word s i ≡ 0
  unfolding word
  word_past h =
      let k : length s ≤ i + 1 = omega arith in
      rw (get_or-eq_default s 0 h, get_or-eq_default s 0 k)

  pub word_last : length s ≤ i + 1 → word s i ≡ byte s i * 256
  unfolding word
  word_last h = rw (get_or-eq_default s 0 h) (omega arith)

-- a number that was written is read back
pub word_two : (n : ℕ) (s : List ℕ) (i : ℕ) → byte s i ≡ n / 256 → byte s (i + 1) ≡ n % 256 → word s i ≡ n
unfolding word
word_two n s i p q = rw (p, q) (div-add-mod' n 256)

-- of bytes it has 16 bits
pub word_wide : (s : List ℕ) (i : ℕ) → ((j : ℕ) → get_or s j 0 < 256) → word s i < 65536
unfolding word
word_wide s i h = omega (arith, h i, h (i + 1))

-- ---- a field's length

module _ (s : List ℕ) (n : ℕ) where
  -- its bytes are there
  pub sized_length : sized s n ≡ true → 3 + n ≤ length s
  unfolding sized
  sized_length h = leb-true (3 + n) (length s) (both (leb (3 + n) (length s)) (eqb (word s 1) n) h).0

  -- one that is not cut short has the length that it says
  pub sized_is : 3 + n ≤ length s → sized s n ≡ eqb (word s 1) n
  unfolding sized
  sized_is h = rw (le-leb (3 + n) (length s) h)

  -- and one that is cut short is none
  pub sized_short : length s < 3 + n → sized s n ≡ false
  unfolding sized
  sized_short h = rw (lt-leb (3 + n) (length s) h)

-- ---- the fields of some bytes: the one at the head, then those of what follows it

module _ {A : Type 0} (read : List ℕ → A) (good : List ℕ → Bool) (more : ℕ → ℕ) where
  -- to pass bytes over is to drop them
  pub split_skip : (k : ℕ) (s : List ℕ) → split read good more k s ≡ split read good more 0 (drop k s)
  unfolding split
  split_skip k [] = rw drop-nil
  split_skip zero (b ∷ s) = refl
  split_skip (suc k) (b ∷ s) = split_skip k s

  pub split_nil : (s : List ℕ) → length s ≤ 0 → split read good more 0 s ≡ []
  unfolding split
  split_nil [] h = refl
  split_nil (b ∷ s) h = absurd (omega arith)

  pub split_good : (s : List ℕ) → 0 < length s → good s ≡ true
      → split read good more 0 s ≡ read s ∷ split read good more 0 (drop (suc (more (byte s 0))) s)
  unfolding split
  split_good [] p h = absurd (omega arith)
  split_good (b ∷ s) p h = rw h (ap (λ (l : List A). read (b ∷ s) ∷ l) (split_skip (more b) s))

  pub split_not : (s : List ℕ) → 0 < length s → good s ≡ false → split read good more 0 s ≡ read s ∷ []
  unfolding split
  split_not [] p h = absurd (omega arith)
  split_not (b ∷ s) p h = rw h

  -- each was read from what some of the bytes leave
  pub split_from : (k : ℕ) (s : List ℕ) (x : A) → Memᴰ x (split read good more k s) → (j : ℕ) × (x ≡ read (drop j s))
  unfolding split
  split_from k [] x m = absurd (Memᴰ.not-nil m)
  split_from (suc k) (b ∷ s) x m = let r = split_from k s x m in (suc r.0, r.1)
  split_from zero (b ∷ s) x m = go (good (b ∷ s)) (split_from (more b) s x) m
    where
      go : (t : Bool) → (Memᴰ x (split read good more (more b) s) → (j : ℕ) × (x ≡ read (drop j s)))
          → Memᴰ x (read (b ∷ s) ∷ cond t (split read good more (more b) s) []) → (j : ℕ) × (x ≡ read (drop j (b ∷ s)))
      go true ih m = ⊎_elim (λ e. (0, e)) (λ n. let r = ih n in (suc r.0, r.1)) (Memᴰ.cases_cons m)
      go false ih m = ⊎_elim (λ e. (0, e)) (λ n. absurd (Memᴰ.not-nil n)) (Memᴰ.cases_cons m)
