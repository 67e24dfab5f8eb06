-- Numbers that are picked and all stand in a list are no more than the list is long. Assumes nothing.
use Rattle.std.specs.Prelude.{ℕ, zero, suc, ◌+◌, ◌≤◌, ◌<◌, ◌≡◌, refl, Bool, true, false, cond, ◌≢◌, length}
use Rattle.std.proofs.Common.{zero-le, sym, ap, subst, ⊎_elim, arith, List, ◌∷◌}
use mathlib.Core.List.Memᴰ
use mathlib.Core.List.{Memᴰ}
use Rattle.planner.specs.Fill.{picked}

-- xs with one x taken out
record Without (x : ℕ) (xs : List ℕ) : Type 0 where
  rest : List ℕ
  shorter : length xs ≡ suc (length rest)
  kept : (y : ℕ) → y ≢ x → Memᴰ y xs → Memᴰ y rest

without : {x : ℕ} {xs : List ℕ} → Memᴰ x xs → Without x xs
without (Memᴰ.head {xs = l} e) =
    record {
      rest = l;
      shorter = refl;
      kept = λ y n m. ⊎_elim (λ p. absurd (n (subst (λ (z : ℕ). y ≡ z) (sym e) p))) (λ k. k) (Memᴰ.cases_cons m);
    }
without (Memᴰ.tail {x = h} m) =
    let w = without m in
    record {
      rest = h ∷ w.rest;
      shorter = ap suc w.shorter;
      kept = λ y n k. ⊎_elim (λ p. Memᴰ.head p) (λ t. Memᴰ.tail (w.kept y n t)) (Memᴰ.cases_cons k);
    }

pub pigeons : (p : ℕ → Bool) (n at : ℕ) (xs : List ℕ) → ((x : ℕ) → at ≤ x → x < at + n → p x ≡ true → Memᴰ x xs) → length (picked p at n) ≤ length xs
unfolding picked
pigeons p zero at xs h = zero-le
pigeons p (suc n) at xs h = go (p at) refl (pigeons p n (suc at))
  where
    go : (t : Bool) → p at ≡ t
        → ((ys : List ℕ) → ((x : ℕ) → suc at ≤ x → x < suc at + n → p x ≡ true → Memᴰ x ys) → length (picked p (suc at) n) ≤ length ys)
        → length (cond t (at ∷ picked p (suc at) n) (picked p (suc at) n)) ≤ length xs
    go true e ih =
        let w = without (h at (omega arith) (omega arith) e) in
        let i = ih w.rest (λ x l u q. w.kept x (λ z. omega arith) (h x (omega arith) (omega arith) q)) in
        omega (arith, w.shorter)
    go false e ih = ih xs (λ x l u q. h x (omega arith) (omega arith) q)
