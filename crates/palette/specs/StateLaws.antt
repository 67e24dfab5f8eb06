-- The state's rule, part by part, and what keeps it. Assumes nothing.
use Rattle.std.specs.Prelude.{◌≡◌, ℕ, zero, suc, ◌+◌, ◌<◌, ◌≤◌, Bool, true, false, cond, ◌&&◌, ◌==◌, nat_le, refl}
use Rattle.std.proofs.Math.Bool.{and-eq-true_iff}
use Rattle.std.proofs.Common.{arith, leb-true, le-leb, ne_eqb}
use Rattle.palette.specs.declared.Palette.{Palette}
use Rattle.palette.specs.Table.{Colour, colour, six}
use Rattle.palette.specs.State.{fresh, ruled, by_phase, with_register, moved}

-- phase 0 to 2, three colour registers of six bits
pub record Ruled (p : Palette) : Type 0 where
  pub phase : p.phase ≤ 2
  pub red : p.red ≤ 63
  pub green : p.green ≤ 63
  pub blue : p.blue ≤ 63

pub ruled_parts : (p : Palette) → ruled p ≡ true → Ruled p
unfolding ruled
ruled_parts p e =
    let f = (and-eq-true_iff (nat_le p.phase 2 && nat_le p.red 63 && nat_le p.green 63) (nat_le p.blue 63)).0 e in
    let g = (and-eq-true_iff (nat_le p.phase 2 && nat_le p.red 63) (nat_le p.green 63)).0 f.0 in
    let h = (and-eq-true_iff (nat_le p.phase 2) (nat_le p.red 63)).0 g.0 in
    record {
      phase = leb-true p.phase 2 h.0;
      red = leb-true p.red 63 h.1;
      green = leb-true p.green 63 g.1;
      blue = leb-true p.blue 63 f.1;
    }

pub ruled_whole : (p : Palette) → Ruled p → ruled p ≡ true
unfolding ruled
ruled_whole p r =
    rw (
      le-leb p.phase 2 r.phase,
      le-leb p.red 63 r.red,
      le-leb p.green 63 r.green,
      le-leb p.blue 63 r.blue,
    )

pub fresh_ruled : ruled fresh ≡ true
unfolding ruled
fresh_ruled = refl

-- ---- what holds of each of two, or of three, holds of the one taken

module _ {A : Type 0} (P : A → Type 0) where
  pub cond_holds : (b : Bool) {x y : A} → P x → P y → P (cond b x y)
  cond_holds true x y = x
  cond_holds false x y = y

  pub by_phase_holds : (n : ℕ) {r g b : A} → P r → P g → P b → P (by_phase n r g b)
  by_phase_holds n r g b = cond_holds (n == 0) r (cond_holds (n == 1) g b)

-- ---- changes that keep the rule

pub six_small : (byte : ℕ) → six byte ≤ 63
six_small byte = omega arith

record Small (c : Colour) : Type 0 where
  red : c.red ≤ 63
  green : c.green ≤ 63
  blue : c.blue ≤ 63

module _ (p : Palette) (r : Ruled p) where
  pub moved_ruled : Ruled (moved p)
  moved_ruled =
      record {
        phase = by_phase_holds (λ n. n ≤ 2) p.phase (omega arith) (omega arith) (omega arith);
        red = r.red;
        green = r.green;
        blue = r.blue;
      }

  pub with_register_ruled : (v : ℕ) → v ≤ 63 → Ruled (with_register p v)
  with_register_ruled v h = record { phase = r.phase; red = small.red; green = small.green; blue = small.blue }
    where
      small : Small (by_phase p.phase (colour v p.green p.blue) (colour p.red v p.blue) (colour p.red p.green v))
      small =
          by_phase_holds Small p.phase
          (record { red = h; green = r.green; blue = r.blue })
          (record { red = r.red; green = h; blue = r.blue })
          (record { red = r.red; green = r.green; blue = h })

-- ---- the phase moves on by one, and from blue to 0

pub phase_next : (n : ℕ) → n < 2 → by_phase {A = ℕ} n 1 2 0 ≡ n + 1
phase_next zero h = refl
phase_next (suc zero) h = refl
phase_next (suc (suc n)) h = absurd (omega arith)

pub phase_last : (n : ℕ) → 2 ≤ n → by_phase {A = ℕ} n 1 2 0 ≡ 0
phase_last n h = rw (ne_eqb n 0 (λ e. omega arith), ne_eqb n 1 (λ e. omega arith))
