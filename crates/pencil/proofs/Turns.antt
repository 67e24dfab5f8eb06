-- One turn of each loop, and the ways out of a write, by what the code has. Assumes nothing.
use Rattle.std.proofs.Common.{◌≡◌, refl, sym, ap, ap₂, ◌∙◌, subst, Bool, true, false, cond, List, [], ℕ, ◌+◌, ◌-◌, ◌*◌, ◌/◌, ◌%◌, ◌≤◌, ◌<◌, arith, mod-eq_of_lt, add-one, eqb, length, take, drop}
use Rattle.numbers.specs.BufferLaws.{tail_part, tail_length}
use Rattle.numbers.specs.Refuse.{first_of, leaves}
use Rattle.vram.specs.declared.Vram.{Vram}
use Rattle.vram.specs.declared.Cycle.{Cycle}
use Rattle.vram.specs.declared.Cycle.TheVariants.{WordWrite, BlockWrite}
use Rattle.vram.specs.Board.{Board, board, in_force}
use Rattle.vram.specs.Step.{given_of, number, step_by, run_by}
use Rattle.vram.specs.StepLaws.{steps_same}
use Rattle.vram.proofs.CaseLaws.{cycle_after, step_is, number_first, refusal_word, refusal_block, run_none, run_next}
use Rattle.vram.specs.Calls.{Answered, Outcome, cycle_call, Wrote}
use Rattle.vram.proofs.Arms.{untouched}
use Rattle.list.specs.declared.Head.{Head}
use Rattle.list.specs.declared.Head.TheVariants.{Waits, Wrong, Whole}
use Rattle.list.specs.Heads.{head_of}
use Rattle.list.proofs.HeadLaws.{Says, head_says}
use Rattle.list.specs.Meaning.{cycles_of}
use Rattle.pencil.specs.Bits.{bits_left}
use Rattle.pencil.specs.Memory.{word_written, block_written}
use Rattle.pencil.specs.Pencil.{write_number, pencil}
use Rattle.pencil.proofs.EngineLaws.{pencil_effect}

-- ---- a column of a block

module _ (m : List ℕ) (base colour columns mask strobes : ℕ) where
  pub block_start : m ≡ block_written m base colour columns mask strobes 0
  unfolding block_written
  block_start = refl

  pub block_turn : (x : List ℕ) (j left : ℕ) (y : List ℕ) → j < 4 → x ≡ block_written m base colour columns mask strobes j
      → left ≡ bits_left columns (j % 4) mask → y ≡ word_written x (base + j) colour left strobes
      → y ≡ block_written m base colour columns mask strobes (j + 1)
  unfolding block_written
  block_turn x j left y h e l f =
      f
      ∙ ap₂ (λ (z : List ℕ) (n : ℕ). word_written z (base + j) colour n strobes) e (l ∙ ap (λ (n : ℕ). bits_left columns n mask) (mod-eq_of_lt h))
      ∙ ap (block_written m base colour columns mask strobes) (sym (add-one j))

-- ---- a cycle: a write leaves what it leaves of the memory

module _ (s : Vram) (m r : List ℕ) where
  write_step : (c : Cycle) (n : ℕ) (made : List ℕ) → number c (board s m r) ≡ n → pencil c (board s m r) ≡ board s made r
      → (left : List ℕ) → left ≡ leaves n m made → board s left r ≡ step_by pencil c (board s m r)
  write_step c n made e f left l =
      ap (λ (x : List ℕ). board s x r) l
      ∙ go (eqb n 0)
      ∙ sym (step_is pencil c (board s m r) ∙ ap₂ (λ (k : ℕ) (b : Board). leaves k (board s m r) b) e f)
    where
      go : (t : Bool) → board s (cond t made m) r ≡ cond t (board s made r) (board s m r)
      go true = refl
      go false = refl

  -- the state stays as it was, refused or done
  stays : {n : ℕ} {made left : List ℕ} {given : Answered} → Wrote n s m made given left → given.state ≡ s
  stays {n} w = ap (λ (g : Answered). g.state) w.answer ∙ sym (untouched n s)

  module _ (row column masking mask strobes : ℕ) (left : List ℕ) (given : Answered) where
    abbrev refused : ℕ
    refused = write_number s (length m) (length r) row column masking mask strobes

    pub word_step : (word : ℕ) → Wrote refused s m (word_written m (512 * row + column) word (in_force s masking mask) strobes) given left
        → board given.state left r ≡ step_by pencil (WordWrite row column word masking mask strobes) (board s m r)
    unfolding pencil
    word_step word w =
        let c = WordWrite row column word masking mask strobes in
        ap (λ (x : Vram). board x left r) (stays w)
        ∙ write_step c refused _ (number_first c (board s m r) ∙ ap (first_of (given_of (board s m r))) (refusal_word _ _ row column word masking mask strobes)) refl left w.memory

    pub block_step : (columns : ℕ)
        → Wrote refused s m (block_written m (512 * row + 4 * (column / 4)) s.colour columns (in_force s masking mask) strobes 4) given left
        → board given.state left r ≡ step_by pencil (BlockWrite row column columns masking mask strobes) (board s m r)
    unfolding pencil
    block_step columns w =
        let c = BlockWrite row column columns masking mask strobes in
        ap (λ (x : Vram). board x left r) (stays w)
        ∙ write_step c refused _ (number_first c (board s m r) ∙ ap (first_of (given_of (board s m r))) (refusal_block _ _ row column columns masking mask strobes)) refl left w.memory

-- any other cycle is `vram`'s: what that leaves is what the plain engine does
pub other_step : (c : Cycle) (b : Board) (o : Outcome) → o ≡ cycle_call c b → o.after ≡ step_by pencil c b
other_step c b o e = ap (λ (x : Outcome). x.after) e ∙ cycle_after c b ∙ sym (steps_same pencil_effect c b)

-- ---- a list: s is what is left of it

abbrev runs : List Cycle → Board → Board
runs = run_by (step_by pencil)

module _ (s : List ℕ) (head : Head) (e : head ≡ head_of s) where
  says : (h : Head) → head ≡ h → Says s h
  says h f = subst (Says s) (sym e ∙ f) (head_says s)

  -- no whole field: the list is over
  over : cycles_of s ≡ [] → (b : Board) → b ≡ runs (cycles_of s) b
  over f b = sym (ap (λ (l : List Cycle). runs l b) f ∙ run_none (step_by pencil) b)

  pub over_not : ((cycle : Cycle) (size : ℕ) → head ≡ Whole cycle size → ⊥) → (b : Board) → b ≡ runs (cycles_of s) b
  over_not n = go head refl
    where
      go : (h : Head) → head ≡ h → (b : Board) → b ≡ runs (cycles_of s) b
      go Waits f = over (says Waits f)
      go Wrong f = over (says Wrong f)
      go (Whole cycle size) f = absurd (n cycle size f)

  -- a whole field: its cycle is run, and the bytes after it are left
  module _ (cycle : Cycle) (size : ℕ) (f : head ≡ Whole cycle size) where
    pub field_fits : (0 < size) × (size ≤ length s)
    field_fits = let p = says (Whole cycle size) f in (p.1, p.2)

    pub rest_less : length (take (length s - size) (drop size s)) < length s
    rest_less = let p = field_fits in omega (arith, tail_length s size, p.0, p.1)

    pub turn_run : (b after : Board) → after ≡ step_by pencil cycle b
        → runs (cycles_of (take (length s - size) (drop size s))) after ≡ runs (cycles_of s) b
    turn_run b after g =
        ap₂ (λ (t : List ℕ) (x : Board). runs (cycles_of t) x) (tail_part s size) g
        ∙ sym (ap (λ (l : List Cycle). runs l b) (says (Whole cycle size) f).0 ∙ run_next (step_by pencil) cycle _ b)
