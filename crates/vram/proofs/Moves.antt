-- How the code moves a state, by the cases that it tests, is a run of clocks. Assumes nothing.
use Rattle.std.proofs.Common.{◌≡◌, ℕ, ◌+◌, ◌-◌, ◌%◌, ◌<◌, ◌≤◌, sym, ap, ◌∙◌, mod-eq_of_lt, arith}
use Rattle.vram.specs.declared.Vram.{Vram}
use Rattle.vram.specs.declared.Waiting.TheVariants.{None, Tap}
use Rattle.vram.specs.Serial.{at, after, length_of, through, clocks}
use Rattle.vram.specs.Partition.{partition, within}
use Rattle.vram.specs.SerialLaws.{through_within, clocks_in_within, clocks_in_none, clocks_in_through}

module _ (s : Vram) (k : ℕ) (p : s.pointer < 256) where
  -- within the partition
  pub stays : k < through s → at s (after s.pointer k) s.waiting ≡ clocks k s
  stays h =
      let w = (through_within s p).1 in
      let l = within (partition s) s.pointer in
      let e : (s.pointer + k) % 256 ≡ s.pointer + k = mod-eq_of_lt (omega arith) in
      ap (λ (x : ℕ). at s x s.waiting) e ∙ sym (clocks_in_within (length_of s) (partition s) k s p (omega arith))

  -- past its end with nothing waiting
  pub goes_round : s.waiting ≡ None → at s (after s.pointer k) None ≡ clocks k s
  goes_round w = sym (clocks_in_none (length_of s) k s p w)

  -- past its end with a tap waiting
  pub jumps : (tap : ℕ) → tap < 256 → s.waiting ≡ Tap tap → through s ≤ k → at s (after tap (k - through s)) None ≡ clocks k s
  jumps tap t w h = sym (clocks_in_through (length_of s) (partition s) tap t k s p w h)
