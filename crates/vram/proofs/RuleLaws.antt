-- A cycle keeps the lengths, the width of words and the rows it does not name; a cycle and a clock keep the state's rule. Assumes nothing.
use Rattle.std.specs.Prelude.{◌≡◌, ℕ, zero, suc, ◌-◌, ◌%◌, ◌<◌, Bool, true, false, cond, List, length, ◌==◌, ◌≢◌}
use Rattle.std.proofs.Math.Path.{refl}
use Rattle.std.proofs.Common.{sym, ap, ◌∙◌, ⊎_elim, arith}
use Rattle.std.proofs.Math.Nat.{mod-eq_of_lt}
use borrow.Author.Tests.{eqb-false}
use Rattle.vram.specs.declared.Vram.{Vram}
use Rattle.vram.specs.declared.Waiting.{Waiting}
use Rattle.vram.specs.declared.Waiting.TheVariants.{None, Tap}
use Rattle.vram.specs.declared.Cycle.{Cycle}
use Rattle.vram.specs.State.{with_colour, with_mask, waiting_ok, ruled}
use Rattle.vram.specs.Memory.{Words, puts}
use Rattle.vram.specs.MemoryLaws.{copied_length}
use Rattle.vram.specs.Board.{Board, effect}
use Rattle.vram.specs.RefusalLaws.{given_zero, given_rule}
use Rattle.vram.specs.Step.{given_of, rows_of, number, step, run}
use Rattle.vram.specs.StepLaws.{number_zero, step_holds, run_holds}
use Rattle.vram.specs.Kinds.{names}
use Rattle.vram.specs.Writes.{writes, written, written_length, written_words, row_of, written_row}
use Rattle.vram.proofs.Sets.{sets, effect_is, effect_writes}
use Rattle.vram.proofs.KeptLaws.{kept}
use Rattle.vram.proofs.AimLaws.{aimed}
use Rattle.vram.specs.Serial.{at, after, clocked_on, clock_in, clocks_in, length_of, clocks}
use Rattle.vram.specs.Partition.{Partition, partition, within, next}

-- ---- lengths

pub record Sized (x b : Board) : Type 0 where
  pub memory : length x.memory ≡ length b.memory
  pub serial : length x.serial ≡ length b.serial

effect_sized : (c : Cycle) (b : Board) → number c b ≡ 0 → Sized (effect c b) b
effect_sized c b z =
    let n = number_zero c b z in
    let g = given_zero b.state (length b.memory) (length b.serial) n.0 in
    let k = (kept c b.state).copy (length b.memory) n.1 in
    record {
      memory = ap length (effect_writes c b) ∙ written_length (writes c b.state) b.memory;
      serial =
          ap (λ (x : Board). length x.serial) (effect_is c b)
          ∙ copied_length b.memory (sets c b.state).from b.serial (sets c b.state).to (sets c b.state).count k.0 (omega (arith, k.1, g.register));
    }

pub step_sized : (c : Cycle) (b : Board) → Sized (step c b) b
step_sized c b = step_holds (λ x. Sized x b) effect c b (record { memory = refl; serial = refl }) (effect_sized c b)

pub run_sized : (l : List Cycle) (b : Board) → Sized (run l b) b
run_sized l b =
    run_holds (λ x. Sized x b) step
    (λ c x k. record { memory = (step_sized c x).memory ∙ k.memory; serial = (step_sized c x).serial ∙ k.serial })
    l b (record { memory = refl; serial = refl })

-- ---- words of 16 bits stay such

pub step_words : (c : Cycle) (b : Board) → Words b.memory → Words (step c b).memory
step_words c b h =
    step_holds (λ x. Words x.memory) effect c b h (λ z a. rw (effect_writes c b) (written_words (writes c b.state) b.memory h a))

pub run_words : (l : List Cycle) (b : Board) → Words b.memory → Words (run l b).memory
run_words = run_holds (λ x. Words x.memory) step step_words

-- ---- rows: a write touches only the row that it names

pub step_row : (r : ℕ) (c : Cycle) (b : Board) → names r c ≡ false → row_of r (step c b).memory ≡ row_of r b.memory
unfolding puts
step_row r c b h = step_holds (λ x. row_of r x.memory ≡ row_of r b.memory) effect c b refl (λ z. ap (row_of r) (effect_writes c b) ∙ go z)
  where
    go : number c b ≡ 0 → row_of r (written (writes c b.state) b.memory) ≡ row_of r b.memory
    go z =
        ⊎_elim (λ e. rw e)
        (λ n. written_row (writes c b.state) b.memory r n ((aimed c b.state).within (rows_of b) b.state.loaded (number_zero c b z).1))
        ((aimed c b.state).elsewhere r h)

-- ---- the state's rule says nothing of the colour and mask registers

pub registers_ruled : (s : Vram) (colour mask : ℕ) (p : Bool) → ruled (with_mask (with_colour s colour) mask p) ≡ ruled s
unfolding ruled
registers_ruled s colour mask p = refl

-- ---- the state's rule, by a cycle

effect_ruled : (c : Cycle) (b : Board) → ruled b.state ≡ true → number c b ≡ 0 → ruled (effect c b).state ≡ true
effect_ruled c b h z =
    ap (λ (x : Board). ruled x.state) (effect_is c b) ∙ (kept c b.state).rule (rows_of b) (number_zero c b z).1 h

pub step_ruled : (c : Cycle) (b : Board) → ruled b.state ≡ true → ruled (step c b).state ≡ true
step_ruled c b h = step_holds (λ x. ruled x.state ≡ true) effect c b h (effect_ruled c b h)

pub run_ruled : (l : List Cycle) (b : Board) → ruled b.state ≡ true → ruled (run l b).state ≡ true
run_ruled = run_holds (λ x. ruled x.state ≡ true) step step_ruled

-- what is given stays as it was: what is wrong with a board after a cycle was wrong with it before
pub step_given : (c : Cycle) (b : Board) → given_of (step c b) ≡ given_of b
step_given c b = step_holds (λ x. given_of x ≡ given_of b) effect c b refl go
  where
    go : number c b ≡ 0 → given_of (effect c b) ≡ given_of b
    go z =
        let g = given_zero b.state (length b.memory) (length b.serial) (number_zero c b z).0 in
        let l = effect_sized c b z in
        rw (l.memory, l.serial)
        (given_rule (effect c b).state b.state (length b.memory) (length b.serial) (effect_ruled c b g.rule z ∙ sym g.rule))

-- ---- the state's rule, by a clock

module _ (n : ℕ) (P : Partition n) where
  pub clock_ruled : (s : Vram) → s.pointer < 256 → ruled s ≡ true → ruled (clock_in n s) ≡ true
  unfolding clock_in ruled
  clock_ruled s p h = go s.waiting h
    where
      go : (w : Waiting) → waiting_ok w s.loaded s.pointer ≡ true → waiting_ok (clocked_on n w s).waiting (clocked_on n w s).loaded (clocked_on n w s).pointer ≡ true
      go None h = refl
      go (Tap tap) h = last (s.pointer % n == n - 1) refl
        where
          last : (u : Bool) → (s.pointer % n == n - 1) ≡ u
              → waiting_ok (clocked_on n (Tap tap) s).waiting (clocked_on n (Tap tap) s).loaded (clocked_on n (Tap tap) s).pointer ≡ true
          last true q = rw q
          last false q =
              let l = within P s.pointer in
              let k : s.pointer % n ≡ n - 1 → ⊥ = eqb-false _ _ q in
              let g = next P s.pointer p (omega arith) in
              rw (q, mod-eq_of_lt g.0, g.2) h

-- ---- and by a run of clocks, where pointer and tap are places of the register, as a `Vram` has them

pub record Places (s : Vram) : Type 0 where
  pub place : s.pointer < 256
  pub tap : (t : ℕ) → s.waiting ≡ Tap t → t < 256

none_or_tap : (t : ℕ) → None ≢ Tap t
none_or_tap t e = let z : ◌≡◌ {A = ℕ} 0 1 = cc in omega arith

module _ (n : ℕ) where
  clocked_on_places : (s : Vram) → Places s → (w : Waiting) → s.waiting ≡ w → Places (clocked_on n w s)
  clocked_on_places s p None e = record { place = omega arith; tap = λ t f. absurd (none_or_tap t f) }
  clocked_on_places s p (Tap tap) e = go (s.pointer % n == n - 1)
    where
      go : (u : Bool) → Places (cond u (at s tap None) (at s (after s.pointer 1) (Tap tap)))
      go true = record { place = p.tap tap e; tap = λ t f. absurd (none_or_tap t f) }
      go false = record { place = omega arith; tap = λ t f. p.tap t (e ∙ f) }

  pub clock_places : (s : Vram) → Places s → Places (clock_in n s)
  unfolding clock_in
  clock_places s p = clocked_on_places s p s.waiting refl

clocks_in_ruled : (n : ℕ) → Partition n → (k : ℕ) (s : Vram) → Places s → ruled s ≡ true → ruled (clocks_in n k s) ≡ true
unfolding clocks_in
clocks_in_ruled n P zero s p h = h
clocks_in_ruled n P (suc k) s p h = clocks_in_ruled n P k (clock_in n s) (clock_places n s p) (clock_ruled n P s p.place h)

pub clocks_ruled : (k : ℕ) (s : Vram) → Places s → ruled s ≡ true → ruled (clocks k s) ≡ true
clocks_ruled k s p h = clocks_in_ruled (length_of s) (partition s) k s p h
