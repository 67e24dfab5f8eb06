-- A write through a mask that is known by its bits. Assumes nothing.
use Rattle.std.proofs.Common.{◌≡◌, ℕ, ◌+◌, Bool, ◌&&◌, List, ap}
use Rattle.words.specs.Bit.{bit, of_bits}
use Rattle.words.specs.Word.{lets}
use Rattle.words.specs.WordLaws.{mask_bit}
use Rattle.vram.specs.Memory.{put, puts}
use Rattle.vram.specs.MemoryLaws.{put_cong, puts_cong}

pub put_by_mask : (m : List ℕ) (at new mask : ℕ) (w : ℕ → Bool) → mask ≡ of_bits 16 w → put m at new (bit mask) ≡ put m at new w
put_by_mask m at new mask w e = put_cong m at new (bit mask) w (mask_bit mask w e)

pub puts_by_mask : (m : List ℕ) (base new columns mask : ℕ) (w : ℕ → Bool) → mask ≡ of_bits 16 w → (k : ℕ)
    → puts m base new (λ j b. lets columns j b && bit mask b) k ≡ puts m base new (λ j b. lets columns j b && w b) k
puts_by_mask m base new columns mask w e =
    puts_cong m base new (λ j b. lets columns j b && bit mask b) (λ j b. lets columns j b && w b)
    (λ j b h. ap (λ (p : Bool). lets columns j b && p) (mask_bit mask w e b h))

-- four writes, one after the other, are the four words of a block
pub four_writes : (m m₁ m₂ m₃ m₄ : List ℕ) (base new : ℕ) (w : ℕ → ℕ → Bool) → m₁ ≡ put m (base + 0) new (w 0) → m₂ ≡ put m₁ (base + 1) new (w 1)
    → m₃ ≡ put m₂ (base + 2) new (w 2) → m₄ ≡ put m₃ (base + 3) new (w 3) → m₄ ≡ puts m base new w 4
unfolding puts
four_writes m m₁ m₂ m₃ m₄ base new w e₁ e₂ e₃ e₄ = rw (e₄, e₃, e₂, e₁)
