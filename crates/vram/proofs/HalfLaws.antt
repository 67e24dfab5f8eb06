-- Where a partition is a half of the register, the pointer moves as document 01 says: "from 127 or 255 to the waiting tap if there is one,
-- which is used up; otherwise to pointer + 1, with 255 going to 0". Assumes nothing.
use Rattle.std.specs.Prelude.{◌≡◌, ℕ, zero, suc, ◌+◌, ◌%◌, ◌<◌, Bool, true, false, cond, ◌||◌, ◌==◌, refl}
use Rattle.std.proofs.Common.{ap, ◌∙◌, arith, eqb-true, eq-eqb, ne_eqb}
use Rattle.std.proofs.lemmas.Bool.{eqb-false}
use Rattle.vram.specs.declared.Vram.{Vram}
use Rattle.vram.specs.declared.Waiting.{Waiting}
use Rattle.vram.specs.declared.Waiting.TheVariants.{None, Tap}
use Rattle.vram.specs.declared.Stop.TheVariants.{Every128}
use Rattle.vram.specs.Serial.{at, after, clocked_on, clock_in, clocks_in, length_of, clock, clocks}
use Rattle.vram.proofs.RuleLaws.{Places, clock_places}

-- ---- document 01's sentence

abbrev pub onward : ℕ → ℕ
onward pointer = cond (pointer == 255) 0 (pointer + 1)

abbrev pub half_clocked_on : Waiting → Vram → Vram
half_clocked_on None s = at s (onward s.pointer) None
half_clocked_on (Tap tap) s = cond (s.pointer == 127 || s.pointer == 255) (at s tap None) (at s (onward s.pointer) (Tap tap))

unfoldable pub half_clock : Vram → Vram
half_clock s = half_clocked_on s.waiting s

unfoldable pub half_clocks : ℕ → Vram → Vram
half_clocks zero s = s
half_clocks (suc k) s = half_clocks k (half_clock s)

-- ---- the last places of two halves, and the place after any

last_places : (p : ℕ) → p < 256 → (p % 128 == 127) ≡ (p == 127 || p == 255)
last_places p h = go (p == 127) (p == 255) refl refl
  where
    go : (t u : Bool) → (p == 127) ≡ t → (p == 255) ≡ u → (p % 128 == 127) ≡ (t || u)
    go true u e f = let z : p ≡ 127 = eqb-true p 127 e in eq-eqb (p % 128) 127 (omega arith)
    go false true e f = let z : p ≡ 255 = eqb-true p 255 f in eq-eqb (p % 128) 127 (omega arith)
    go false false e f =
        let z = eqb-false p 127 e in
        let y = eqb-false p 255 f in
        ne_eqb (p % 128) 127 (λ q. omega arith)

onward_is : (p : ℕ) → p < 256 → after p 1 ≡ onward p
onward_is p h = go (p == 255) refl
  where
    go : (t : Bool) → (p == 255) ≡ t → after p 1 ≡ cond t 0 (p + 1)
    go true e = let z : p ≡ 255 = eqb-true p 255 e in omega arith
    go false e = let z = eqb-false p 255 e in omega arith

-- ---- a clock, and a run of clocks

half_clock_is : (s : Vram) → s.pointer < 256 → clock_in 128 s ≡ half_clock s
unfolding clock_in half_clock
half_clock_is s p = go s.waiting
  where
    go : (w : Waiting) → clocked_on 128 w s ≡ half_clocked_on w s
    go None = rw (onward_is s.pointer p)
    go (Tap tap) = rw (onward_is s.pointer p, last_places s.pointer p)

half_clocks_is : (k : ℕ) (s : Vram) → Places s → clocks_in 128 k s ≡ half_clocks k s
unfolding clocks_in half_clocks
half_clocks_is zero s p = refl
half_clocks_is (suc k) s p = half_clocks_is k (clock_in 128 s) (clock_places 128 s p) ∙ ap (half_clocks k) (half_clock_is s p.place)

module _ (s : Vram) (e : s.stop ≡ Every128) where
  length_128 : length_of s ≡ 128
  unfolding length_of
  length_128 = rw e

  pub clock_128 : s.pointer < 256 → clock s ≡ half_clock s
  clock_128 p = ap (λ (n : ℕ). clock_in n s) length_128 ∙ half_clock_is s p

  pub clocks_128 : (k : ℕ) → Places s → clocks k s ≡ half_clocks k s
  clocks_128 k p = ap (λ (n : ℕ). clocks_in n k s) length_128 ∙ half_clocks_is k s p
