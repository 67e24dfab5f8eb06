-- What the arithmetic needs of a partition's length, and what follows for the places: once, over the length. Assumes nothing.
use Rattle.std.specs.Prelude.{◌≡◌, ℕ, ◌+◌, ◌*◌, ◌/◌, ◌%◌, ◌<◌, refl}
use Rattle.std.proofs.Common.{sym, ap, ◌∙◌, arith, mod-lt, mod-eq_of_lt, add_assoc, add-zero, lit≤}
use Rattle.std.proofs.Math.Nat.{div-eq_of_lt, div-add-mod, mul-add-div, mul-add-mod_self_left, div-div-eq-div-mul}
use Rattle.vram.specs.declared.Vram.{Vram}
use Rattle.vram.specs.declared.Stop.{Stop}
use Rattle.vram.specs.declared.Stop.TheVariants.{Every16, Every32, Every64, Every128}
use Rattle.vram.specs.State.{stop_length}
use Rattle.vram.specs.Serial.{length_of}

-- it is not 0, and so many of it make a half
pub record Partition (n : ℕ) : Type 0 where
  pub some : 0 < n
  pub many : ℕ
  pub half : n * many ≡ 128

-- so it is of the four lengths
stop_partition : (t : Stop) → Partition (stop_length t)
stop_partition Every16 = record { some = lit≤ tt; many = 8; half = refl }
stop_partition Every32 = record { some = lit≤ tt; many = 4; half = refl }
stop_partition Every64 = record { some = lit≤ tt; many = 2; half = refl }
stop_partition Every128 = record { some = lit≤ tt; many = 1; half = refl }

-- and so of every state's
pub partition : (s : Vram) → Partition (length_of s)
unfolding length_of
partition s = stop_partition s.stop

module _ {n : ℕ} (P : Partition n) where
  -- a place lies before the end of its partition
  pub within : (p : ℕ) → p % n < n
  within p = mod-lt p P.some

  -- the half of a place, by its partition
  half_of : (x : ℕ) → x / 128 ≡ x / n / P.many
  half_of x = ap (λ (y : ℕ). x / y) (sym P.half) ∙ sym (div-div-eq-div-mul x n P.many)

  module _ (p : ℕ) (k : p % n + 1 < n) where
    further : p + 1 ≡ n * (p / n) + (p % n + 1)
    further = ap (λ (x : ℕ). x + 1) (sym (div-add-mod p n)) ∙ add_assoc (n * (p / n)) (p % n) 1

    same_partition : (p + 1) / n ≡ p / n
    same_partition =
        ap (λ (x : ℕ). x / n) further ∙ mul-add-div P.some (p / n) (p % n + 1) ∙ ap (λ (x : ℕ). p / n + x) (div-eq_of_lt k) ∙ add-zero (p / n)

    next_place : (p + 1) % n ≡ p % n + 1
    next_place = ap (λ (x : ℕ). x % n) further ∙ mul-add-mod_self_left n (p / n) (p % n + 1) ∙ mod-eq_of_lt k

    same_half : (p + 1) / 128 ≡ p / 128
    same_half = half_of (p + 1) ∙ ap (λ (x : ℕ). x / P.many) same_partition ∙ sym (half_of p)

  -- the place after one that is not its partition's last lies in the register, one further in the partition, and in the same half
  pub next : (p : ℕ) → p < 256 → p % n + 1 < n → (p + 1 < 256) × ((p + 1) % n ≡ p % n + 1) × ((p + 1) / 128 ≡ p / 128)
  next p h k = let e = same_half p k in (omega arith, next_place p k, e)
