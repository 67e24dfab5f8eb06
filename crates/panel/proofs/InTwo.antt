-- A run of j + k clocks is a run of j and then a run of k, on state and bytes. Assumes nothing.
use Rattle.std.specs.Prelude.{◌≡◌, List, ◌++◌, ℕ, ◌+◌, ◌*◌, length, take, drop}
use Rattle.std.proofs.Common.{sym, ap, ap₂, ◌∙◌, arith, length-drop}
use Rattle.vram.specs.declared.Vram.{Vram}
use Rattle.vram.specs.Serial.{clocks}
use Rattle.vram.specs.SerialLaws.{clocks_add}
use Rattle.vram.proofs.RuleLaws.{Places, clocks_ruled}
use Rattle.vram.proofs.CallLaws.{clocks_fewer, clocks_rest}
use Rattle.vram.specs.Calls.{answered}
use Rattle.palette.specs.declared.Palette.{Palette}
use Rattle.panel.specs.Panel.{panel_of, run_bytes}
use Rattle.panel.proofs.PanelLaws.{run_bytes_add, run_bytes_length, over_more}
use Rattle.numbers.specs.Buffer.{over}
use Rattle.numbers.specs.BufferLaws.{over_length}
use Rattle.panel.specs.Calls.{run_refusal, Outcome, outcome, run_call_by}
use Rattle.panel.proofs.CallLaws.{run_zero, run_accepted, run_made}

-- where a run of j + k is not refused, neither is the run of j, nor the run of k at the state and the bytes that the first leaves
module _ (parts : ℕ → ℕ) (s : Vram) (places : Places s) (r : List ℕ) (p : Palette) (t : List ℕ) (j k blank : ℕ) (out : List ℕ)
    (z : run_refusal s p (length r) (length t) (j + k) (length out) ≡ 0) where
  abbrev first : Outcome
  first = run_call_by parts s r p t j blank out

  abbrev second : Outcome
  second = run_call_by parts first.answer.state r p t k blank (drop (3 * j) first.buffer)

  pub first_accepted : run_refusal s p (length r) (length t) j (length out) ≡ 0
  first_accepted =
      let a = run_zero s p (length r) (length t) (j + k) (length out) z in
      run_accepted s p (length r) (length t) j (length out) a.rule a.palette a.register a.entries (clocks_fewer s j (j + k) (omega arith) a.moves) (omega (arith, a.room))

  made : first ≡ outcome (answered 0 (clocks j s)) (over (run_bytes (panel_of parts p.mask t) blank j s r) out)
  made = run_made parts s r p t j blank out first_accepted

  pub second_accepted : run_refusal first.answer.state p (length r) (length t) k (length (drop (3 * j) first.buffer)) ≡ 0
  second_accepted =
      let a = run_zero s p (length r) (length t) (j + k) (length out) z in
      let q = panel_of parts p.mask t in
      let b : length (over (run_bytes q blank j s r) out) ≡ length out = over_length (run_bytes q blank j s r) out (omega (arith, run_bytes_length q blank j s r, a.room)) in
      rw made
      (run_accepted (clocks j s) p (length r) (length t) k _ (clocks_ruled j s places a.rule) a.palette a.register a.entries
      (clocks_rest s j k places a.moves) (simp length-drop (omega (arith, b, a.room))))

  pub run_in_two : run_call_by parts s r p t (j + k) blank out ≡ outcome second.answer (take (3 * j) first.buffer ++ second.buffer)
  run_in_two =
      let q = panel_of parts p.mask t in
      let e : first.answer.state ≡ clocks j s = ap (λ (o : Outcome). o.answer.state) made in
      let b : first.buffer ≡ over (run_bytes q blank j s r) out = ap (λ (o : Outcome). o.buffer) made in
      let g = run_made parts first.answer.state r p t k blank (drop (3 * j) first.buffer) second_accepted in
      run_made parts s r p t (j + k) blank out z
      ∙ ap₂ outcome (ap (answered 0) (clocks_add j k s))
      (ap (λ (l : List ℕ). over l out) (run_bytes_add q blank j k s r)
      ∙ over_more (run_bytes q blank j s r) (run_bytes q blank k (clocks j s) r) out (3 * j) (run_bytes_length q blank j s r)
      ∙ ap (λ (l : List ℕ). take (3 * j) l ++ over (run_bytes q blank k (clocks j s) r) (drop (3 * j) l)) (sym b))
      ∙ ap
      (λ (v : Vram). outcome (answered 0 (clocks k v)) (take (3 * j) first.buffer ++ over (run_bytes q blank k v r) (drop (3 * j) first.buffer)))
      (sym e)
      ∙ ap (λ (o : Outcome). outcome o.answer (take (3 * j) first.buffer ++ o.buffer)) (sym g)
