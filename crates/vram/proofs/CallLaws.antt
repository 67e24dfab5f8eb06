-- Laws of the calls that move the serial port: a clock, and a run of clocks. Assumes nothing.
use Rattle.std.specs.Prelude.{◌≡◌, ℕ, ◌+◌, ◌≤◌, Bool, true, false, cond, ◌||◌, ◌≢◌, List, length, ◌==◌, nat_le, slice_index, refl}
use Rattle.std.proofs.Common.{ap, ◌∙◌, arith, leb-true, le-leb, eq-eqb, eqb-true}
use Rattle.numbers.specs.Refuse.{leaves}
use Rattle.numbers.specs.RefuseLaws.{refuse_zero, leaves_made, leaves_before}
use Rattle.vram.specs.declared.Vram.{Vram}
use Rattle.vram.specs.State.{ruled}
use Rattle.vram.specs.Serial.{through, clock, clocks}
use Rattle.vram.specs.SerialLaws.{clock_is, clocks_keep}
use Rattle.vram.proofs.RuleLaws.{Places, clocks_ruled}
use Rattle.vram.specs.Calls.{clock_refusal, clock_call, clocks_refusal, clocks_call}

-- a refused clock answers the word 0 and changes nothing
pub clock_refuses : (s : Vram) (r : List ℕ) → (clock_call s r).number ≢ 0 → clock_call s r ≡ record { state = s; word = 0; number = (clock_call s r).number }
unfolding clock_call
clock_refuses s r h =
    let n = clock_refusal s (length r) in
    rw (leaves_before n s (clock s) h, leaves_before n 0 (slice_index r s.pointer) h)

-- clocks leave persistence as it was, refused or not
pub leaves_persistent : (n k : ℕ) (s : Vram) → (leaves n s (clocks k s)).persistent ≡ s.persistent
leaves_persistent n k s = go (n == 0)
  where
    go : (t : Bool) → (cond t (clocks k s) s).persistent ≡ s.persistent
    go true = ap (λ (x : Vram). x.persistent) (clocks_keep k s)
    go false = refl

pub clock_persistent : (s : Vram) (r : List ℕ) → (clock_call s r).state.persistent ≡ s.persistent
unfolding clock_call
clock_persistent s r =
    let n = clock_refusal s (length r) in
    ap (λ (x : Vram). (leaves n s x).persistent) (clock_is s) ∙ leaves_persistent n 1 s

-- the number that `clocks` gives back
pub clocks_number : (s : Vram) (k : ℕ) → (clocks_call s k).number ≡ clocks_refusal s k
unfolding clocks_call
clocks_number s k = refl

-- where it refuses nothing the state has moved
pub clocks_moves : (s : Vram) (k : ℕ) → clocks_refusal s k ≡ 0 → (clocks_call s k).state ≡ clocks k s
unfolding clocks_call
clocks_moves s k z = leaves_made (clocks_refusal s k) s (clocks k s) z

-- and so many clocks more lead through the end of its partition
pub clocks_leads : (s : Vram) (k : ℕ) → clocks_refusal s k ≡ 0 → (clocks_call s k).through ≡ through (clocks k s)
unfolding clocks_call
clocks_leads s k z = leaves_made (clocks_refusal s k) 0 (through (clocks k s)) z

-- what a run that is not refused has
record Accepted (s : Vram) (k : ℕ) : Type 0 where
  rule : ruled s ≡ true
  made : (k == 0 || s.loaded) ≡ true
  most : k ≤ 512

clocks_zero : (s : Vram) (k : ℕ) → clocks_refusal s k ≡ 0 → Accepted s k
unfolding clocks_refusal
clocks_zero s k z =
    let p = refuse_zero (ruled s) 0 _ z in
    let q = refuse_zero (k == 0 || s.loaded) 9 _ p.1 in
    let r = refuse_zero (nat_le k 512) 13 0 q.1 in
    record { rule = p.0; made = q.0; most = leb-true k 512 r.0 }

-- what exempts a run from 10 exempts one that is empty where it is
exempt : (made : Bool) (j k : ℕ) → (k ≡ 0 → j ≡ 0) → (k == 0 || made) ≡ true → (j == 0 || made) ≡ true
exempt made j k f h = go (k == 0) refl h
  where
    either : (t : Bool) → made ≡ true → (t || made) ≡ true
    either true m = refl
    either false m = m

    go : (t : Bool) → (k == 0) ≡ t → (t || made) ≡ true → (j == 0 || made) ≡ true
    go true e q = rw (eq-eqb j 0 (f (eqb-true k 0 e)))
    go false e q = either (j == 0) q

-- fewer clocks are not refused either
pub clocks_fewer : (s : Vram) (j k : ℕ) → j ≤ k → clocks_refusal s k ≡ 0 → clocks_refusal s j ≡ 0
unfolding clocks_refusal
clocks_fewer s j k h z =
    let a = clocks_zero s k z in
    rw (a.rule, exempt s.loaded j k (λ z. omega arith) a.made, le-leb j 512 (omega (arith, a.most)))

-- and after some of the clocks the others are not refused
pub clocks_rest : (s : Vram) (j k : ℕ) → Places s → clocks_refusal s (j + k) ≡ 0 → clocks_refusal (clocks j s) k ≡ 0
unfolding clocks_refusal
clocks_rest s j k p z =
    let a = clocks_zero s (j + k) z in
    rw (clocks_ruled j s p a.rule, ap (λ (x : Vram). x.loaded) (clocks_keep j s), exempt s.loaded k (j + k) (λ z. omega arith) a.made, le-leb k 512 (omega (arith, a.most)))
