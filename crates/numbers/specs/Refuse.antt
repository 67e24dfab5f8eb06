-- Which number is given, and what a refusal leaves: document 01, "Numbers given back". Assumes nothing.
use Rattle.std.specs.Prelude.{ℕ, Bool, true, false, cond, eqb}

-- the number where the test fails; where it holds, what the later tests say
abbrev pub refuse : Bool → ℕ → ℕ → ℕ
refuse true number later = later
refuse false number later = number

-- the first of two numbers that refuses
abbrev pub first_of : ℕ → ℕ → ℕ
first_of number later = cond (eqb number 0) later number

-- what a call leaves: what it makes where the number is 0, and else what was there
abbrev pub leaves : {A : Type 0} → ℕ → A → A → A
leaves number before made = cond (eqb number 0) made before
