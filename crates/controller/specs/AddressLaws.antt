-- Laws of addresses wrapped at 18 bits, and of pans. Assumes nothing.
use Rattle.std.specs.Prelude.{◌≡◌, ℕ, zero, suc, ◌+◌, ◌-◌, ◌*◌, ◌/◌, ◌%◌, ◌<◌, ◌≤◌, Bool, true, false, cond, ℤ, pos, negsuc, ◌+ℤ◌, ◌*ℤ◌, neg_ℤ, nat_le, nat_lt, refl}
use Rattle.std.proofs.Common.{sym, ap, ◌∙◌, arith, ltb-true, ltb-false, leb-true}
use Rattle.std.proofs.Math.IntN.{sub_ℕ, +ℤ_assoc, +ℤ_comm}
use Rattle.std.specs.Int.Signed.{mag}
use Rattle.numbers.specs.Between.{both}
use Rattle.controller.specs.Address.{wrap, wrapped, reaches, panned, bank_of, row_of, column_of}

-- ---- what it means to wrap an integer

-- an address has 18 bits
pub wrapped_small : (z : ℤ) → wrapped z < 262144
wrapped_small (pos n) = omega arith
wrapped_small (negsuc n) = omega arith

-- a difference, by which of the two is larger
sub_cases : (P : ℤ → Type 0) (a b : ℕ) → (a < b → P (negsuc (b - suc a))) → (b ≤ a → P (pos (a - b))) → P (sub_ℕ a b)
sub_cases P a b f g = go (nat_lt a b) refl
  where
    go : (t : Bool) → nat_lt a b ≡ t → P (cond t (negsuc (b - suc a)) (pos (a - b)))
    go true e = f (ltb-true a b e)
    go false e = g (ltb-false a b e)

-- the sum of two integers wraps to the sum of what they wrap to
pub wrapped_sum : (y z : ℤ) → wrapped (y +ℤ z) ≡ wrap (wrapped y + wrapped z)
wrapped_sum (pos a) (pos b) = omega arith
wrapped_sum (pos a) (negsuc b) =
    sub_cases (λ z. wrapped z ≡ wrap (wrap a + (262143 - wrap b))) a (suc b) (λ h. omega arith) (λ h. omega arith)
wrapped_sum (negsuc a) (pos b) =
    sub_cases (λ z. wrapped z ≡ wrap ((262143 - wrap a) + wrap b)) b (suc a) (λ h. omega arith) (λ h. omega arith)
wrapped_sum (negsuc a) (negsuc b) = omega arith

-- a summand may be wrapped before
pub wrapped_before : (y z : ℤ) → wrapped (pos (wrapped y) +ℤ z) ≡ wrapped (y +ℤ z)
wrapped_before y z =
    let e : wrap (wrapped y) ≡ wrapped y = omega (arith, wrapped_small y) in
    wrapped_sum (pos (wrapped y)) z ∙ ap (λ (n : ℕ). wrap (n + wrapped z)) e ∙ sym (wrapped_sum y z)

-- so it is the same to pan an address and go on from there, and to go on and pan
pub panned_on : (top y : ℕ) (words : ℤ) → wrap (panned top words + y) ≡ panned (wrap (top + y)) words
panned_on top y words =
    let e : (pos top +ℤ words) +ℤ pos y ≡ pos (top + y) +ℤ words =
    +ℤ_assoc (pos top) words (pos y) ∙ ap (λ (z : ℤ). pos top +ℤ z) (+ℤ_comm words (pos y)) ∙ sym (+ℤ_assoc (pos top) (pos y) words)
    in
    wrapped_before (pos top +ℤ words) (pos y) ∙ ap wrapped e ∙ sym (wrapped_before (pos (top + y)) words)

-- whole turns wrap to 0
turns_none : (k : ℤ) → wrapped (pos 262144 *ℤ k) ≡ 0
turns_none (pos q) = omega arith
turns_none (negsuc q) = back (262144 * suc q) (omega arith)
  where
    back : (n : ℕ) → wrap n ≡ 0 → wrapped (neg_ℤ (pos n)) ≡ 0
    back zero e = refl
    back (suc n) e = omega arith

-- of all numbers below 262,144 the only one that is whole turns away
pub wrapped_only : (z k : ℤ) (n : ℕ) → n < 262144 → z ≡ pos n +ℤ pos 262144 *ℤ k → n ≡ wrapped z
wrapped_only z k n h e =
    let f : wrap (wrap n + 0) ≡ n = omega arith in
    sym (ap wrapped e ∙ wrapped_sum (pos n) (pos 262144 *ℤ k) ∙ ap (λ (t : ℕ). wrap (wrap n + t)) (turns_none k) ∙ f)

-- the turns
abbrev turns : ℤ → ℤ
turns (pos n) = pos (n / 262144)
turns (negsuc n) = negsuc (n / 262144)

pub wrapped_turns : (z : ℤ) → z ≡ pos (wrapped z) +ℤ pos 262144 *ℤ turns z
wrapped_turns (pos n) = let e : n ≡ wrap n + 262144 * (n / 262144) = omega arith in ap pos e
wrapped_turns (negsuc n) = away (262143 - wrap n) (262144 * suc (n / 262144)) (omega arith)
  where
    away : (a b : ℕ) → a + suc n ≡ b → negsuc n ≡ pos a +ℤ neg_ℤ (pos b)
    away a zero e = absurd (omega arith)
    away a (suc b) e =
        sub_cases (λ z. negsuc n ≡ z) a (suc b) (λ h. ap negsuc (omega arith)) (λ h. absurd (omega arith))

-- ---- how far a pan reaches

pub reach_mag : (words : ℤ) → reaches words ≡ true → mag words ≤ 131071
reach_mag (pos n) e = leb-true n 131071 e
reach_mag (negsuc n) e = leb-true n 131071 (both (nat_le n 131071) true e).0

-- ---- one turn more, which keeps the sum from being negative

-- no more than one turn below 0, and below two turns
pub Near : ℤ → Type 0
Near (pos n) = n < 524288
Near (negsuc n) = n < 262144

pub sum_near : (top : ℕ) (words : ℤ) → top < 262144 → reaches words ≡ true → Near (pos top +ℤ words)
unfolding Near
sum_near top (pos n) h r = omega (arith, reach_mag (pos n) r)
sum_near top (negsuc n) h r = let m = reach_mag (negsuc n) r in sub_cases Near top (suc n) (λ l. omega arith) (λ l. omega arith)

abbrev pub raised : ℤ → ℕ
raised (pos n) = n + 262144
raised (negsuc n) = 262143 - n

pub raise : (z : ℤ) → Near z → z +ℤ pos 262144 ≡ pos (raised z)
unfolding Near
raise (pos n) h = refl
raise (negsuc n) h =
    sub_cases (λ z. z ≡ pos (262143 - n)) 262144 (suc n) (λ l. absurd (omega arith)) (λ l. ap pos (omega arith))

pub near_mag : (z : ℤ) → Near z → mag z < 524288
unfolding Near
near_mag (pos n) h = h
near_mag (negsuc n) h = omega arith

pub raised_mag : (z : ℤ) → Near z → raised z < 786432
unfolding Near
raised_mag (pos n) h = omega arith
raised_mag (negsuc n) h = omega arith

pub raised_wraps : (z : ℤ) → Near z → raised z % 262144 ≡ wrapped z
unfolding Near
raised_wraps (pos n) h = omega arith
raised_wraps (negsuc n) h = omega arith

-- ---- bank, row and column

-- together they are the address, and of 18 bits two are the bank's
pub address_parts : (address : ℕ) → 65536 * bank_of address + 256 * row_of address + column_of address ≡ address
address_parts address = omega arith

pub bank_small : (address : ℕ) → bank_of (wrap address) < 4
bank_small address = omega arith
