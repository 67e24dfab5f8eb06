-- Two bytes as one number, and the bits that a part has of a byte. Assumes nothing.
use Rattle.std.proofs.Common.{◌≡◌, ap₂, ◌∙◌, ℕ, ◌*◌, ◌/◌, ◌%◌, ◌<◌, arith}
use lib.Bits.{bit_and, and_mod, and_shr, and_mask, and_zero_r}
use Rattle.panel.specs.Two.{two}

-- the two back again
pub two_back : (n low high : ℕ) → n ≡ two low high → low < 256 → (n % 256 ≡ low) × (n / 256 ≡ high)
two_back n low high e h = (omega arith, omega arith)

-- an AND goes byte by byte
pub and_two : (a b m n : ℕ) → a < 256 → m < 256 → bit_and (two a b) (two m n) ≡ two (bit_and a m) (bit_and b n)
and_two a b m n h k =
    let x = two a b in
    let y = two m n in
    let x₀ : x % 256 ≡ a = omega arith in
    let x₁ : x / 256 ≡ b = omega arith in
    let y₀ : y % 256 ≡ m = omega arith in
    let y₁ : y / 256 ≡ n = omega arith in
    let low : bit_and x y % 256 ≡ bit_and a m = and_mod x y 8 ∙ ap₂ bit_and x₀ y₀ in
    let high : bit_and x y / 256 ≡ bit_and b n = and_shr x y 8 ∙ ap₂ bit_and x₁ y₁ in
    omega (arith, low, high)

-- the low six bits
pub six_bits : (n : ℕ) → bit_and n 0x3F ≡ n % 64
six_bits n = and_mask n 6

-- the top two of them
pub top_two : (n : ℕ) → bit_and n 0x30 ≡ 16 * (n % 64 / 16)
top_two n =
    let low : bit_and n 0x30 % 16 ≡ 0 = and_mod n 0x30 4 ∙ and_zero_r (n % 16) in
    let high : bit_and n 0x30 / 16 ≡ n / 16 % 4 = and_shr n 0x30 4 ∙ and_mask (n / 16) 2 in
    omega (arith, low, high)
