-- The serial pointer's motion, over the length of a partition, and then by each state's own. Assumes nothing.
use Rattle.std.specs.Prelude.{◌≡◌, ℕ, zero, suc, ◌+◌, ◌-◌, ◌%◌, ◌<◌, ◌≤◌, Bool, true, false, cond, List, [], ◌∷◌, ◌++◌, length, take, drop, ◌==◌, slice_index}
use Rattle.std.proofs.Math.Path.{refl, ap}
use Rattle.std.proofs.Common.{sym, ◌∙◌, zero-add, drop-cons, arith, eq-eqb, ne_eqb}
use Rattle.std.proofs.Math.Nat.{mod-eq_of_lt, add-zero}
use Rattle.vram.specs.declared.Vram.{Vram}
use Rattle.vram.specs.declared.Waiting.{Waiting}
use Rattle.vram.specs.declared.Waiting.TheVariants.{None, Tap}
use Rattle.vram.specs.State.{with_serial}
use Rattle.vram.specs.Partition.{Partition, partition, within, next}
use Rattle.vram.specs.Serial.{at, after, through_in, clocked_on, clock_in, clocks_in, clocked_words_in, length_of, through, clock, clocks, clocked_words}

-- ---- a run of clocks is a run and then a run

pub clocks_in_add : (n j k : ℕ) (s : Vram) → clocks_in n (j + k) s ≡ clocks_in n k (clocks_in n j s)
unfolding clocks_in
clocks_in_add n zero k s = ap (λ (x : ℕ). clocks_in n x s) (zero-add k)
clocks_in_add n (suc j) k s =
    let e : suc j + k ≡ suc (j + k) = omega arith in
    rw e (clocks_in_add n j k (clock_in n s))

pub clocked_words_in_add : (n j k : ℕ) (s : Vram) (r : List ℕ) → clocked_words_in n (j + k) s r ≡ clocked_words_in n j s r ++ clocked_words_in n k (clocks_in n j s) r
unfolding clocked_words_in clocks_in
clocked_words_in_add n zero k s r = ap (λ (x : ℕ). clocked_words_in n x s r) (zero-add k)
clocked_words_in_add n (suc j) k s r =
    let e : suc j + k ≡ suc (j + k) = omega arith in
    rw e (ap (λ (t : List ℕ). slice_index r s.pointer ∷ t) (clocked_words_in_add n j k (clock_in n s) r))

pub clocked_words_in_none : (n : ℕ) (s : Vram) (r : List ℕ) → clocked_words_in n 0 s r ≡ []
unfolding clocked_words_in
clocked_words_in_none n s r = refl

pub clocked_words_in_length : (n k : ℕ) (s : Vram) (r : List ℕ) → length (clocked_words_in n k s r) ≡ k
unfolding clocked_words_in
clocked_words_in_length n zero s r = refl
clocked_words_in_length n (suc k) s r = ap suc (clocked_words_in_length n k (clock_in n s) r)

pub clock_in_is : (n : ℕ) (s : Vram) → clock_in n s ≡ clocks_in n 1 s
unfolding clocks_in
clock_in_is n s = refl

module _ (n : ℕ) (P : Partition n) where
  -- a partition ends within the register
  ends_within : (j p : ℕ) → p < 256 → p % n + suc j ≡ n → p + suc j ≤ 256
  ends_within zero p h e = omega arith
  ends_within (suc j) p h e =
      let g = next P p h (omega arith) in
      omega (arith, ends_within j (p + 1) g.0 (omega (arith, g.1)))

  pub through_in_within : (p : ℕ) → p < 256 → (0 < through_in n p) × (p + through_in n p ≤ 256)
  through_in_within p h =
      let l = within P p in
      let e : suc (through_in n p - 1) ≡ through_in n p = omega arith in
      (omega arith, omega (arith, ends_within (through_in n p - 1) p h (omega arith)))

  -- ---- a stretch that does not pass a partition's end is that many places in order

  pub clock_in_within : (s : Vram) → s.pointer < 256 → s.pointer % n + 1 < n → clock_in n s ≡ at s (s.pointer + 1) s.waiting
  unfolding clock_in
  clock_in_within s p h = go s.waiting
    where
      e : (s.pointer + 1) % 256 ≡ s.pointer + 1
      e = mod-eq_of_lt (next P s.pointer p h).0

      go : (w : Waiting) → clocked_on n w s ≡ at s (s.pointer + 1) w
      go None = rw e
      go (Tap tap) = rw (ne_eqb (s.pointer % n) (n - 1) (λ z. omega arith), e)

  pub clocks_in_within : (k : ℕ) (s : Vram) → s.pointer < 256 → s.pointer % n + k < n → clocks_in n k s ≡ at s (s.pointer + k) s.waiting
  unfolding clocks_in
  clocks_in_within zero s p h = rw add-zero
  clocks_in_within (suc k) s p h =
      let g = next P s.pointer p (omega arith) in
      let e : s.pointer + suc k ≡ s.pointer + 1 + k = omega arith in
      rw (clock_in_within s p (omega arith), e) (clocks_in_within k (at s (s.pointer + 1) s.waiting) g.0 (rw g.1 (omega arith)))

  pub clocked_words_in_within : (k : ℕ) (s : Vram) (r : List ℕ) → s.pointer < 256 → s.pointer % n + k ≤ n → s.pointer + k ≤ length r
      → clocked_words_in n k s r ≡ take k (drop s.pointer r)
  unfolding clocked_words_in
  clocked_words_in_within zero s r p h l = refl
  clocked_words_in_within (suc zero) s r p h l = rw (drop-cons r s.pointer 0 (omega arith))
  clocked_words_in_within (suc (suc k)) s r p h l =
      let g = next P s.pointer p (omega arith) in
      let e : s.pointer + 1 ≡ suc s.pointer = omega arith in
      rw (drop-cons r s.pointer 0 (omega arith), clock_in_within s p (omega arith))
      (ap (λ (t : List ℕ). slice_index r s.pointer ∷ t)
      (clocked_words_in_within (suc k) (at s (s.pointer + 1) s.waiting) r g.0 (rw g.1 (omega arith)) (omega arith)
      ∙ ap (λ (x : ℕ). take (suc k) (drop x r)) e))

-- ---- where nothing waits the pointer goes round

after_mod : (p k : ℕ) → (p % 256 + k) % 256 ≡ (p + k) % 256
after_mod p k = omega arith

clock_in_none : (n : ℕ) (s : Vram) → s.waiting ≡ None → clock_in n s ≡ at s (after s.pointer 1) None
unfolding clock_in
clock_in_none n s w = rw w

pub clocks_in_none : (n k : ℕ) (s : Vram) → s.pointer < 256 → s.waiting ≡ None → clocks_in n k s ≡ at s (after s.pointer k) None
unfolding clocks_in
clocks_in_none n zero s p w = rw (add-zero, mod-eq_of_lt p, ← w)
clocks_in_none n (suc k) s p w =
    let e : (s.pointer + 1) % 256 + k ≡ (s.pointer + 1) % 256 + k = refl in
    let f : ((s.pointer + 1) % 256 + k) % 256 ≡ (s.pointer + suc k) % 256 = omega arith in
    rw (clock_in_none n s w) (clocks_in_none n k (at s (after s.pointer 1) None) (omega arith) refl ∙ ap (λ (x : ℕ). at s x None) f)

-- ---- past a partition's end the run goes on from the waiting tap, which is used up

module _ (n : ℕ) (P : Partition n) (tap : ℕ) (t : tap < 256) where
  -- at the partition's last place
  ends : (s : Vram) → s.waiting ≡ Tap tap → s.pointer % n + 1 ≡ n → clock_in n s ≡ at s tap None
  unfolding clock_in
  ends s w h =
      let z : s.pointer % n ≡ n - 1 = omega arith in
      rw (w, eq-eqb (s.pointer % n) (n - 1) z)

  -- j places before it
  passes : (j k : ℕ) (s : Vram) → s.pointer < 256 → s.waiting ≡ Tap tap → s.pointer % n + suc j ≡ n
      → clocks_in n (suc j + k) s ≡ at s (after tap k) None
  unfolding clocks_in
  passes zero k s p w h =
      let e : 1 + k ≡ suc k = omega arith in
      rw (e, ends s w (omega arith)) (clocks_in_none n k (at s tap None) t refl)
  passes (suc j) k s p w h =
      let g = next P s.pointer p (omega arith) in
      let e : suc (suc j) + k ≡ suc (suc j + k) = omega arith in
      ap (λ (x : ℕ). clocks_in n x s) e
      ∙ ap (clocks_in n (suc j + k)) (clock_in_within n P s p (omega arith))
      ∙ passes j k (at s (s.pointer + 1) s.waiting) g.0 w (rw g.1 (omega arith))

  pub clocks_in_through : (k : ℕ) (s : Vram) → s.pointer < 256 → s.waiting ≡ Tap tap → through_in n s.pointer ≤ k
      → clocks_in n k s ≡ at s (after tap (k - through_in n s.pointer)) None
  clocks_in_through k s p w h =
      let l = within P s.pointer in
      let e : suc (through_in n s.pointer - 1) + (k - through_in n s.pointer) ≡ k = omega arith in
      ap (λ (x : ℕ). clocks_in n x s) (sym e) ∙ passes (through_in n s.pointer - 1) (k - through_in n s.pointer) s p w (omega arith)

-- ---- a clock moves the pointer and uses up the tap; every other register stays

module _ (n : ℕ) where
  clocked_on_keeps : (s : Vram) (w : Waiting) → clocked_on n w s ≡ at s (clocked_on n w s).pointer (clocked_on n w s).waiting
  clocked_on_keeps s None = refl
  clocked_on_keeps s (Tap tap) = go (s.pointer % n == n - 1)
    where
      go : (u : Bool) → cond u (at s tap None) (at s (after s.pointer 1) (Tap tap))
          ≡ at s (cond u (at s tap None) (at s (after s.pointer 1) (Tap tap))).pointer (cond u (at s tap None) (at s (after s.pointer 1) (Tap tap))).waiting
      go true = refl
      go false = refl

  pub clocks_in_keeps : (k : ℕ) (s : Vram) → clocks_in n k s ≡ at s (clocks_in n k s).pointer (clocks_in n k s).waiting
  unfolding clocks_in clock_in
  clocks_in_keeps zero s = refl
  clocks_in_keeps (suc k) s =
      let t = clocks_in n k (clock_in n s) in
      clocks_in_keeps k (clock_in n s) ∙ ap (λ (x : Vram). at x t.pointer t.waiting) (clocked_on_keeps s s.waiting)

-- ---- the same by the length of the state's own partitions

pub clock_is : (s : Vram) → clock s ≡ clocks 1 s
clock_is s = clock_in_is (length_of s) s

-- a run of clocks keeps colour, mask, persistence, `loaded` and the stop points
pub clocks_keep : (k : ℕ) (s : Vram) → clocks k s ≡ with_serial s s.loaded (clocks k s).pointer (clocks k s).waiting
clocks_keep k s = clocks_in_keeps (length_of s) k s

-- and so the length of its partitions
length_kept : (s : Vram) (place : ℕ) (w : Waiting) → length_of (at s place w) ≡ length_of s
unfolding length_of
length_kept s place w = refl

pub clocks_length : (k : ℕ) (s : Vram) → length_of (clocks k s) ≡ length_of s
clocks_length k s = ap length_of (clocks_keep k s) ∙ length_kept s (clocks k s).pointer (clocks k s).waiting

pub clocks_add : (j k : ℕ) (s : Vram) → clocks (j + k) s ≡ clocks k (clocks j s)
clocks_add j k s = clocks_in_add (length_of s) j k s ∙ ap (λ (n : ℕ). clocks_in n k (clocks j s)) (sym (clocks_length j s))

pub clocked_words_add : (j k : ℕ) (s : Vram) (r : List ℕ) → clocked_words (j + k) s r ≡ clocked_words j s r ++ clocked_words k (clocks j s) r
clocked_words_add j k s r = clocked_words_in_add (length_of s) j k s r ∙ ap (λ (n : ℕ). clocked_words j s r ++ clocked_words_in n k (clocks j s) r) (sym (clocks_length j s))

pub clocked_words_none : (s : Vram) (r : List ℕ) → clocked_words 0 s r ≡ []
clocked_words_none s r = clocked_words_in_none (length_of s) s r

pub clocked_words_length : (k : ℕ) (s : Vram) (r : List ℕ) → length (clocked_words k s r) ≡ k
clocked_words_length k s r = clocked_words_in_length (length_of s) k s r

module _ (s : Vram) (p : s.pointer < 256) where
  -- the end of a partition is some clocks off, and within the register
  pub through_within : (0 < through s) × (s.pointer + through s ≤ 256)
  through_within = through_in_within (length_of s) (partition s) s.pointer p

  -- as many words as lie before it are that many places in order
  pub clocked_words_within : (k : ℕ) (r : List ℕ) → k ≤ through s → s.pointer + k ≤ length r → clocked_words k s r ≡ take k (drop s.pointer r)
  clocked_words_within k r h l =
      let w = within (partition s) s.pointer in
      clocked_words_in_within (length_of s) (partition s) k s r p (omega arith) l
