-- Addresses of 18 bits, and a pan: a signed number of words added to one. Assumes nothing.
use Rattle.std.specs.Prelude.{ℕ, ◌-◌, ◌/◌, ◌%◌, Bool, ◌&&◌, ℤ, pos, negsuc, ◌+ℤ◌, int_le}
use Rattle.controller.specs.declared.Address.{Address}

-- a number wrapped at 18 bits: what is left of it over whole turns of 262,144
abbrev pub wrap : ℕ → ℕ
wrap n = n % 262144

-- the same of an integer (`wrapped_turns`, `wrapped_only`): -1, which is `negsuc 0`, wraps to 262,143
abbrev pub wrapped : ℤ → ℕ
wrapped (pos n) = wrap n
wrapped (negsuc n) = 262143 - wrap n

-- a pan reaches from -131,072 to 131,071 words
abbrev pub reaches : ℤ → Bool
reaches words = int_le (negsuc 131071) words && int_le words (pos 131071)

-- the sum of Top of Frame and the words panned, wrapped at 18 bits
abbrev pub panned : ℕ → ℤ → ℕ
panned top words = wrapped (pos top +ℤ words)

-- ---- an address is given as bank, row and column: the top two bits, the next eight, the low eight

abbrev pub bank_of : ℕ → ℕ
bank_of address = address / 65536

abbrev pub row_of : ℕ → ℕ
row_of address = address / 256 % 256

abbrev pub column_of : ℕ → ℕ
column_of address = address % 256

abbrev pub address_of : ℕ → Address
address_of n = record { bank = bank_of n; row = row_of n; column = column_of n }
