-- The ways out of a serial clock and of a run of clocks. Assumes nothing.
use Rattle.std.proofs.Common.{◌≡◌, ℕ, eqb, ◌≢◌, List, length, get_or, eqb-true}
use Rattle.numbers.specs.RefuseLaws.{refuse_zero, leaves_before}
use Rattle.vram.specs.declared.Vram.{Vram}
use Rattle.vram.specs.Calls.{Clocked}
use Rattle.vram.specs.declared.Word.{Word}
use Rattle.vram.specs.State.{ruled}
use Rattle.vram.specs.Serial.{through, clock, clocks}
use Rattle.vram.specs.SerialLaws.{clock_is}
use Rattle.vram.specs.Calls.{clock_refusal, clock_call, moved_to, clocks_refusal, clocks_call}

abbrev pub worded : ℕ → ℕ → Word
worded n w = record { number = n; word = w }

abbrev pub clocked : Vram → ℕ → ℕ → Clocked
clocked s w n = record { state = s; word = w; number = n }

-- a register that is accepted has 256 words
pub register_long : (s : Vram) (serial : ℕ) → clock_refusal s serial ≡ 0 → serial ≡ 256
unfolding clock_refusal
register_long s serial e = eqb-true serial 256 (refuse_zero (eqb serial 256) 2 _ (refuse_zero (ruled s) 0 _ e).1).0

module _ (s : Vram) (r : List ℕ) (n : ℕ) (e : n ≡ clock_refusal s (length r)) where
  pub clock_refused : n ≢ 0 → clocked s 0 n ≡ clock_call s r
  unfolding clock_call
  clock_refused h = rw (← e, leaves_before n s (clock s) h, leaves_before n 0 (get_or r s.pointer 0) h)

  pub clock_done : {s' : Vram} → n ≡ 0 → s' ≡ clocks 1 s → clocked s' (get_or r s.pointer 0) 0 ≡ clock_call s r
  unfolding clock_call
  clock_done z f = rw (← e, z, f, clock_is s)

module _ (s : Vram) (k n : ℕ) (e : n ≡ clocks_refusal s k) where
  pub clocks_refused : n ≢ 0 → moved_to n s 0 ≡ clocks_call s k
  unfolding clocks_call
  clocks_refused h = rw (← e, leaves_before n s (clocks k s) h, leaves_before n 0 (through (clocks k s)) h)

  pub clocks_done : {s' : Vram} {t : ℕ} → n ≡ 0 → s' ≡ clocks k s → t ≡ through s' → moved_to 0 s' t ≡ clocks_call s k
  unfolding clocks_call
  clocks_done z f g = rw (← e, z, g, f)
