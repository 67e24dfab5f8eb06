-- From what the code of a kind of cycle ensures to what the whole call owes. Assumes nothing.
use Rattle.std.proofs.Common.{◌≡◌, ℕ, Bool, true, false, cond, eqb, List, sym, refl, ap, ◌∙◌}
use Rattle.numbers.specs.Refuse.{first_of, leaves}
use Rattle.numbers.specs.RefuseLaws.{first_of_later, done_is}
use Rattle.vram.specs.declared.Vram.{Vram}
use Rattle.vram.specs.declared.Cycle.{Cycle}
use Rattle.vram.specs.Board.{Board, board, effect}
use Rattle.vram.specs.Refusal.{refusal}
use Rattle.vram.specs.Step.{given_of, rows_of, number, step_by}
use Rattle.vram.specs.Calls.{Answered, answered, answers, outcome, cycle_call, Wrote}

-- ---- the number of a kind: n is what the code has for what is given

module _ (n g k : ℕ) (e : n ≡ g) where
  -- what is given does not refuse, and the kind's own numbers decide
  pub own_decides : {m : ℕ} → n ≡ 0 → m ≡ k → m ≡ first_of g k
  own_decides z f = f ∙ sym (first_of_later g k (sym e ∙ z))

-- ---- a write that is done

pub wrote : {n : ℕ} {s : Vram} {m written left : List ℕ} → 0 ≡ n → left ≡ written → Wrote n s m written (answered 0 s) left
wrote {n} {s} {m} {written} {left} e f = record {
  answer = done_is answered 0 n s s s e refl refl;
  memory = done_is (λ _ (x : List ℕ). x) 0 n m written left e refl f;
}

-- ---- a whole cycle

-- what a cycle does not touch is left either way
pub untouched : {A : Type 0} (n : ℕ) (x : A) → x ≡ leaves n x x
untouched n x = go (eqb n 0)
  where
    go : (t : Bool) → x ≡ cond t x x
    go true = refl
    go false = refl

-- a board is left as its three parts are
parts : (t : Bool) (before made : Board) {s : Vram} {m r : List ℕ} → s ≡ cond t made.state before.state
    → m ≡ cond t made.memory before.memory → r ≡ cond t made.serial before.serial → board s m r ≡ cond t made before
parts true before made e f g = rw (e, f, g)
parts false before made e f g = rw (e, f, g)

module _ (c : Cycle) (s : Vram) (m r : List ℕ) where
  -- what a kind ensures is what the call owes
  pub did : {given : Answered} {n : ℕ} {m'' r'' : List ℕ} → given ≡ answers n s (effect c (board s m r)).state
      → n ≡ first_of (given_of (board s m r)) (refusal (rows_of (board s m r)) s.loaded c)
      → m'' ≡ leaves n m (effect c (board s m r)).memory
      → r'' ≡ leaves n r (effect c (board s m r)).serial
      → outcome given m'' r'' ≡ cycle_call c (board s m r)
  unfolding cycle_call number step_by
  did {n = n} {m'' = m''} {r'' = r''} a e k l =
      let p : number c (board s m r) ≡ n = sym e in
      ap (λ (g : Answered). outcome g m'' r'') a
      ∙ rw p (ap (λ (b : Board). record { given = n; after = b }) (parts (eqb n 0) (board s m r) (effect c (board s m r)) refl k l))

  -- a kind that is lent nothing
  pub did_alone : {given : Answered} {n : ℕ} → given ≡ answers n s (effect c (board s m r)).state
      → n ≡ first_of (given_of (board s m r)) (refusal (rows_of (board s m r)) s.loaded c)
      → (effect c (board s m r)).memory ≡ m → (effect c (board s m r)).serial ≡ r
      → outcome given m r ≡ cycle_call c (board s m r)
  did_alone {n = n} a e k l = did a e (untouched n m ∙ ap (leaves n m) (sym k)) (untouched n r ∙ ap (leaves n r) (sym l))
