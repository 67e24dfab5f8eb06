-- Clocks that are not refused, by what they answer. Assumes nothing.
use Rattle.std.proofs.Common.{◌≡◌, sym, ap, ◌∙◌, ℕ}
use Rattle.std.specs.Prelude.{Result, IsOk}
use Rattle.std.specs.Prelude.Result.{Ok, Err}
use Rattle.numbers.specs.declared.Refusal.{Refusal}
use Rattle.numbers.specs.RefusalLaws.{number_not_zero}
use Rattle.vram.specs.declared.Vram.{Vram}
use Rattle.vram.specs.Serial.{through, clocks}
use Rattle.vram.specs.Calls.{Moved, moved_by, clocks_refusal, clocks_call}
use Rattle.vram.proofs.CallLaws.{clocks_number, clocks_moves, clocks_leads}

module _ (s : Vram) (k : ℕ) (z : clocks_refusal s k ≡ 0) where
  pub clocks_answer : (r : Result (Vram × ℕ) Refusal) → moved_by s r ≡ clocks_call s k → IsOk r
  clocks_answer (Ok x) e = search
  clocks_answer (Err n) e = absurd (number_not_zero n (ap (λ (x : Moved). x.number) e ∙ clocks_number s k ∙ z))

  -- the state after them, and the clocks to the end of its partition
  pub clocks_are : (r : Result (Vram × ℕ) Refusal) (x : Vram × ℕ) → moved_by s r ≡ clocks_call s k → r ≡ Ok x → (x.0 ≡ clocks k s) × (x.1 ≡ through x.0)
  clocks_are r x e o =
      let f : moved_by s (Ok x) ≡ clocks_call s k = ap (moved_by s) (sym o) ∙ e in
      let p : x.0 ≡ clocks k s = ap (λ (m : Moved). m.state) f ∙ clocks_moves s k z in
      (p, ap (λ (m : Moved). m.through) f ∙ clocks_leads s k z ∙ ap through (sym p))
