-- The two runs: the same answer at every width, and the bytes of one by the bytes of the other. Assumes nothing.
use Rattle.std.specs.Prelude.{◌≡◌, Bool, true, false, cond, ◌≢◌, ℕ, zero, suc, ◌*◌, ◌/◌, ◌%◌, ◌<◌, eqb, length, take}
use Rattle.std.proofs.Math.Path.{refl}
use Rattle.std.proofs.Common.{sym, ap, ap₂, ◌∙◌, mod-lt, arith, take_at, ne_eqb, List, [], ◌∷◌, map}
use Rattle.numbers.specs.Buffer.{over}
use Rattle.vram.specs.declared.Vram.{Vram}
use Rattle.vram.specs.Serial.{clocks, clocked_words}
use Rattle.vram.specs.Calls.{answered}
use Rattle.palette.specs.declared.Palette.{Palette}
use Rattle.panel.specs.Panel.{widened, unwidened, panel_of, colour_of, bytes_of, shown, zeros, run_bytes}
use Rattle.panel.proofs.PartLaws.{widened_none, widened_top, unwidened_is}
use Rattle.panel.proofs.PanelLaws.{run_bytes_length}
use Rattle.panel.specs.Calls.{run_refusal, Outcome, outcome, run_call_by, run_call, run_six_call}
use Rattle.panel.proofs.CallLaws.{run_refuses, run_made}

-- ---- the same answer

module _ (parts others : ℕ → ℕ) (s : Vram) (r : List ℕ) (p : Palette) (t : List ℕ) (k blank : ℕ) (out : List ℕ) where
  -- number and state
  pub same_answer : (run_call_by parts s r p t k blank out).answer ≡ (run_call_by others s r p t k blank out).answer
  unfolding run_call_by
  same_answer = refl

  -- and all where it is refused
  pub same_refused : run_refusal s p (length r) (length t) k (length out) ≢ 0 → run_call_by parts s r p t k blank out ≡ run_call_by others s r p t k blank out
  same_refused h = sym (run_refuses parts s r p t k blank out _ refl h) ∙ run_refuses others s r p t k blank out _ refl h

-- a blanked run that is not refused writes zeros, by every rule
pub run_blanked : (parts : ℕ → ℕ) (s : Vram) (r : List ℕ) (p : Palette) (t : List ℕ) (k blank : ℕ) (out : List ℕ) → blank ≢ 0
    → run_refusal s p (length r) (length t) k (length out) ≡ 0 → run_call_by parts s r p t k blank out ≡ outcome (answered 0 (clocks k s)) (over (zeros (3 * k)) out)
run_blanked parts s r p t k blank out h z =
    run_made parts s r p t k blank out z
    ∙ ap (λ (b : Bool). outcome (answered 0 (clocks k s)) (over (cond b (shown (panel_of parts p.mask t) k s r) (zeros (3 * k))) out)) (ne_eqb blank 0 h)

-- ---- the bytes of one by the bytes of the other

-- a function that leads from one rule to another, on six bits
module _ (parts others f : ℕ → ℕ) (none : f 0 ≡ 0) (leads : (six : ℕ) → six < 64 → f (parts six) ≡ others six) where
  byte : (n : ℕ) → f (parts (n % 64)) ≡ others (n % 64)
  byte n = leads (n % 64) (mod-lt n (omega arith))

  zeros_by : (n : ℕ) → map f (zeros n) ≡ zeros n
  zeros_by zero = refl
  zeros_by (suc n) = ap₂ (λ (b : ℕ) (l : List ℕ). b ∷ l) none (zeros_by n)

  -- leads from bytes to bytes
  module _ (mask : ℕ) (table : List ℕ) where
    bytes_by : (ws : List ℕ) → map f (bytes_of (panel_of parts mask table) ws) ≡ bytes_of (panel_of others mask table) ws
    unfolding bytes_of colour_of
    bytes_by [] = refl
    bytes_by (w ∷ ws) = simp (byte, bytes_by ws)

    run_by : (blank k : ℕ) (s : Vram) (r : List ℕ)
        → map f (run_bytes (panel_of parts mask table) blank k s r) ≡ run_bytes (panel_of others mask table) blank k s r
    run_by blank k s r = go (eqb blank 0)
      where
        go : (b : Bool) → map f (cond b (shown (panel_of parts mask table) k s r) (zeros (3 * k))) ≡ cond b (shown (panel_of others mask table) k s r) (zeros (3 * k))
        go true = bytes_by (clocked_words k s r)
        go false = zeros_by (3 * k)

  -- and from call to call
  call_by : (s : Vram) (r : List ℕ) (p : Palette) (t : List ℕ) (k blank : ℕ) (out : List ℕ) → run_refusal s p (length r) (length t) k (length out) ≡ 0
      → let o = run_call_by parts s r p t k blank out in run_call_by others s r p t k blank out ≡ outcome o.answer (over (map f (take (3 * k) o.buffer)) out)
  call_by s r p t k blank out z =
      let q = panel_of parts p.mask t in
      let e : take (3 * k) (over (run_bytes q blank k s r) out) ≡ run_bytes q blank k s r = take_at (run_bytes q blank k s r) _ (3 * k) (run_bytes_length q blank k s r) in
      run_made others s r p t k blank out z
      ∙ sym
      (ap (λ (o : Outcome). outcome o.answer (over (map f (take (3 * k) o.buffer)) out)) (run_made parts s r p t k blank out z)
      ∙ ap (λ (l : List ℕ). outcome (answered 0 (clocks k s)) (over l out)) (ap (map f) e ∙ run_by p.mask t blank k s r))

-- a run that is not refused: the default writes the bytes of the six-bit run widened, and the six-bit run the top six bits of the default's
module _ (s : Vram) (r : List ℕ) (p : Palette) (t : List ℕ) (k blank : ℕ) (out : List ℕ) (z : run_refusal s p (length r) (length t) k (length out) ≡ 0) where
  pub run_widens : let o = run_six_call s r p t k blank out in run_call s r p t k blank out ≡ outcome o.answer (over (map widened (take (3 * k) o.buffer)) out)
  run_widens = call_by unwidened widened widened widened_none (λ six h. ap widened (unwidened_is six)) s r p t k blank out z

  pub run_top : let o = run_call s r p t k blank out in run_six_call s r p t k blank out ≡ outcome o.answer (over (map (λ b. b / 4) (take (3 * k) o.buffer)) out)
  run_top = call_by widened unwidened (λ b. b / 4) refl (λ six h. widened_top six h ∙ sym (unwidened_is six)) s r p t k blank out z
