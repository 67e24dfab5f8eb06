-- Bits of numbers. Assumes nothing.
use Rattle.std.specs.Prelude.{ℕ, zero, suc, ◌+◌, ◌*◌, ◌/◌, ◌%◌, ◌^◌, Bool, true, false, eqb}

-- bit b of n, from the lowest
unfoldable pub bit : ℕ → ℕ → Bool
bit n b = eqb (n / 2 ^ b % 2) 1

-- a bit as a number
abbrev pub digit : Bool → ℕ
digit true = 1
digit false = 0

-- the number below 2 ^ k whose bit b is f b (`bit_of_bits`)
unfoldable pub of_bits : ℕ → (ℕ → Bool) → ℕ
of_bits zero f = 0
of_bits (suc k) f = of_bits k (λ b. f (suc b)) * 2 + digit (f 0)
