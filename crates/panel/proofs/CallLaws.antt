-- What holds where a run is not refused, and the ways out of the call. Assumes nothing.
use Rattle.std.specs.Prelude.{◌≡◌, refl, true, ◌&&◌, List, ◌≢◌, ℕ, ◌*◌, ◌≤◌, eqb, leb, length}
use Rattle.std.proofs.Common.{sym, ap₂, ◌∙◌, eqb-true, eq-eqb, leb-true, le-leb}
use Rattle.std.proofs.Math.Path.{ap}
use Rattle.numbers.specs.Refuse.{refuse}
use Rattle.numbers.specs.RefuseLaws.{refuse_zero, first_of_zero, leaves_before}
use Rattle.vram.specs.declared.Vram.{Vram}
use Rattle.vram.specs.Calls.{Moved}
use Rattle.vram.specs.State.{ruled}
use Rattle.numbers.specs.Between.{both}
use Rattle.vram.specs.Serial.{clocks}
use Rattle.vram.specs.Calls.{answered, clocks_refusal, clocks_call}
use Rattle.vram.proofs.CallLaws.{leaves_persistent, clocks_number, clocks_moves}
use Rattle.palette.specs.declared.Palette.{Palette}
use Rattle.palette.specs.State.{ruled as palette_ruled}
use Rattle.panel.specs.Panel.{panel_of, run_bytes}
use Rattle.numbers.specs.Buffer.{over}
use Rattle.panel.specs.Calls.{run_refusal, outcome, run_call_by}

pub record Accepted (s : Vram) (p : Palette) (serial table k bytes : ℕ) : Type 0 where
  pub rule : ruled s ≡ true
  pub palette : palette_ruled p ≡ true
  pub register : serial ≡ 256
  pub entries : table ≡ 768
  pub moves : clocks_refusal s k ≡ 0
  pub room : 3 * k ≤ bytes

pub run_zero : (s : Vram) (p : Palette) (serial table k bytes : ℕ) → run_refusal s p serial table k bytes ≡ 0 → Accepted s p serial table k bytes
unfolding run_refusal
run_zero s p serial table k bytes z =
    let a = refuse_zero (ruled s && palette_ruled p) 0 _ z in
    let b = refuse_zero (eqb serial 256 && eqb table 768) 2 _ a.1 in
    let c = first_of_zero (clocks_refusal s k) (refuse (leb (3 * k) bytes) 15 0) b.1 in
    let d = refuse_zero (leb (3 * k) bytes) 14 0 c.1 in
    let e = both (ruled s) (palette_ruled p) a.0 in
    let f = both (eqb serial 256) (eqb table 768) b.0 in
    record {
      rule = e.0;
      palette = e.1;
      register = eqb-true serial 256 f.0;
      entries = eqb-true table 768 f.1;
      moves = c.0;
      room = leb-true (3 * k) bytes d.0;
    }

-- and the other way
pub run_accepted : (s : Vram) (p : Palette) (serial table k bytes : ℕ) → ruled s ≡ true → palette_ruled p ≡ true → serial ≡ 256 → table ≡ 768
    → clocks_refusal s k ≡ 0 → 3 * k ≤ bytes → run_refusal s p serial table k bytes ≡ 0
unfolding run_refusal
run_accepted s p serial table k bytes a b c d e f = rw (a, b, eq-eqb serial 256 c, eq-eqb table 768 d, e, le-leb (3 * k) bytes f)

module _ (parts : ℕ → ℕ) (s : Vram) (r : List ℕ) (p : Palette) (t : List ℕ) (k blank : ℕ) (out : List ℕ) (n : ℕ)
    (e : n ≡ run_refusal s p (length r) (length t) k (length out)) where
  -- a refusal changes nothing
  pub run_refuses : n ≢ 0 → outcome (answered n s) out ≡ run_call_by parts s r p t k blank out
  unfolding run_call_by
  run_refuses h =
      rw (← e, leaves_before n s (clocks k s) h, leaves_before n out (over (run_bytes (panel_of parts p.mask t) blank k s r) out) h)

  pub run_acts : n ≡ 0 → (a : Moved) (out' : List ℕ) → a ≡ clocks_call s k → out' ≡ over (run_bytes (panel_of parts p.mask t) blank k s r) out
      → outcome (answered a.number a.state) out' ≡ run_call_by parts s r p t k blank out
  unfolding run_call_by
  run_acts z a out' f g =
      let m = (run_zero s p (length r) (length t) k (length out) (sym e ∙ z)).moves in
      let i : a.number ≡ 0 = ap (λ (x : Moved). x.number) f ∙ clocks_number s k ∙ m in
      let j : a.state ≡ clocks k s = ap (λ (x : Moved). x.state) f ∙ clocks_moves s k m in
      rw (← e, z) (ap₂ outcome (ap₂ answered i j) g)

-- the number that a run gives back
pub run_number : (parts : ℕ → ℕ) (s : Vram) (r : List ℕ) (p : Palette) (t : List ℕ) (k blank : ℕ) (out : List ℕ)
    → (run_call_by parts s r p t k blank out).answer.number ≡ run_refusal s p (length r) (length t) k (length out)
unfolding run_call_by
run_number parts s r p t k blank out = refl

-- a run leaves persistence as it was, refused or not
pub run_persistent : (parts : ℕ → ℕ) (s : Vram) (r : List ℕ) (p : Palette) (t : List ℕ) (k blank : ℕ) (out : List ℕ)
    → (run_call_by parts s r p t k blank out).answer.state.persistent ≡ s.persistent
unfolding run_call_by
run_persistent parts s r p t k blank out = leaves_persistent (run_refusal s p (length r) (length t) k (length out)) k s

-- what an accepted run answers and leaves
pub run_made : (parts : ℕ → ℕ) (s : Vram) (r : List ℕ) (p : Palette) (t : List ℕ) (k blank : ℕ) (out : List ℕ)
    → run_refusal s p (length r) (length t) k (length out) ≡ 0
    → run_call_by parts s r p t k blank out ≡ outcome (answered 0 (clocks k s)) (over (run_bytes (panel_of parts p.mask t) blank k s r) out)
unfolding run_call_by
run_made parts s r p t k blank out z = rw z
