-- Laws of the line there and back, and of the exports: the ways out of each; on what was handed to C each is the call below. Assumes nothing.
use Rattle.std.specs.Prelude.{ℕ, ◌≤◌, ◌≡◌, refl, Bool, true, false, ◌&&◌, ◌||◌, cond, List, ◌≢◌, eqb, leb}
use Rattle.std.proofs.Math.Path.{sym}
use Rattle.std.proofs.Common.{ap, ap₂, ◌∙◌, arith, eq-eqb, ne_eqb, eqb-true, leb-true}
use Rattle.std.proofs.lemmas.Bool.{eqb-false}
use Rattle.numbers.specs.Between.{both}
use Rattle.vram.specs.declared.Vram.{Vram}
use Rattle.vram.specs.Board.{board}
use Rattle.std.specs.Prelude.{Option}
use Rattle.std.specs.Prelude.Option.{None, Some}
use Rattle.list.specs.Meaning.{bad}
use Rattle.registers.specs.declared.Registers.{Registers}
use Rattle.registers.specs.State.{lawful, taken, handed}
use Rattle.registers.specs.StateLaws.{handed_taken, taken_handed, handed_lawful}
use Rattle.pieces.specs.declared.Pieces.{Pieces as Below}
use Rattle.pieces.specs.Calls.{Taken as BelowTaken}
use Rattle.pieces.specs.Calls.{Outcome, gives, outcome, first_number, take_call as below_take, end_call as below_end}
use Rattle.pieces.proofs.Refused.{first_nothing}
use Rattle.pieces_c.specs.declared.Pieces.{Pieces}
use Rattle.pieces_c.specs.declared.Taken.{Taken}
use Rattle.pieces_c.specs.Line.{line_lawful, taken_line, handed_by, handed_line, handed_below_taken, excluded_taken}
use Rattle.pieces_c.specs.Calls.{Answered, answered, answer_of, taking, take_call, end_call}

-- ---- the line, there and back

module _ (p : Pieces) where
  pub taken_none : p.«open» ≡ 0 → record { held = p.held; count = p.count; start = p.start; number = p.number; left = None } ≡ taken_line p
  unfolding taken_line
  taken_none z = rw (eq-eqb p.«open» 0 z)

  pub taken_at : p.«open» ≢ 0 → record { held = p.held; count = p.count; start = p.start; number = p.number; left = Some p.left } ≡ taken_line p
  unfolding taken_line
  taken_at n = rw (ne_eqb p.«open» 0 n)

pub line_handed_taken : (p : Pieces) → line_lawful p ≡ true → handed_line (taken_line p) ≡ p
unfolding line_lawful taken_line handed_line
line_handed_taken p h = go (eqb p.«open» 0) refl (eqb p.«open» 1) refl
  where
    a : (leb p.«open» 1 ≡ true) × ((eqb p.«open» 1 || eqb p.left 0) ≡ true)
    a = both (leb p.«open» 1) (eqb p.«open» 1 || eqb p.left 0) h

    with : ℕ → ℕ → Pieces
    with n left = record { left = left; start = p.start; number = p.number; held = p.held; count = p.count; «open» = n }

    go : (t : Bool) → eqb p.«open» 0 ≡ t → (u : Bool) → eqb p.«open» 1 ≡ u → handed_by (cond t None (Some p.left)) (taken_line p) ≡ p
    go true q true r = absurd (omega (arith, eqb-true p.«open» 0 q, eqb-true p.«open» 1 r))
    go true q false r =
        let e : eqb p.left 0 ≡ true = rw r at a.1 in
        ap₂ with (sym (eqb-true p.«open» 0 q)) (sym (eqb-true p.left 0 e))
    go false q u r =
        let l = leb-true p.«open» 1 a.0 in
        let n = eqb-false p.«open» 0 q in
        let e : 1 ≡ p.«open» = one p.«open» l n in
        ap (λ (i : ℕ). with i p.left) e
      where
        one : (i : ℕ) → i ≤ 1 → i ≢ 0 → 1 ≡ i
        one i l n = omega arith

pub line_taken_handed : (p : Below) → taken_line (handed_line p) ≡ p
unfolding taken_line handed_line
line_taken_handed p = go p.left
  where
    go : (left : Option ℕ) → taken_line (handed_by left p) ≡ record { held = p.held; count = p.count; start = p.start; number = p.number; left = left }
    go None = refl
    go (Some place) = refl

pub line_handed_lawful : (p : Below) → line_lawful (handed_line p) ≡ true
unfolding line_lawful handed_line
line_handed_lawful p = go p.left
  where
    go : (left : Option ℕ) → line_lawful (handed_by left p) ≡ true
    go None = refl
    go (Some place) = refl

-- ---- a call that takes both from C

module _ (m q : List ℕ) (made : Vram → Below → Outcome) where
  -- the two ways out, by what the code has
  taking_excluded : (s : Registers) (p : Pieces) → (lawful s && line_lawful p) ≡ false → answered (excluded_taken s p) m q ≡ taking s p m q made
  taking_excluded s p h = rw h

  module _ (s : Registers) (p : Pieces) (h : (lawful s && line_lawful p) ≡ true) where
    taking_done : (v : Vram) → v ≡ taken s → (l : Below) → l ≡ taken_line p → (r : BelowTaken) (m' q' : List ℕ) → outcome r m' q' ≡ made v l
        → (answer : Taken) → answer ≡ handed_below_taken r → answered answer m' q' ≡ taking s p m q made
    taking_done v e l f r m' q' g answer k =
        ap (λ (x : Taken). answered x m' q') k ∙ ap answer_of (g ∙ ap₂ made e f) ∙ sym (rw h)

    taking_is : taking s p m q made ≡ answer_of (made (taken s) (taken_line p))
    taking_is = rw h

  -- on what was handed to C it is the call below
  taking_handed : (v : Vram) (p : Below) → taking (handed v) (handed_line p) m q made ≡ answer_of (made v p)
  taking_handed v p =
      taking_is (handed v) (handed_line p) (ap₂ ◌&&◌ (handed_lawful v) (line_handed_lawful p)) ∙ ap₂ (λ (x : Vram) (y : Below). answer_of (made x y)) (taken_handed v) (line_taken_handed p)

  -- where the call below changes nothing, state and line come back as they came, also where none can be so
  taking_same : (s : Registers) (p : Pieces) (n : ℕ) → made (taken s) (taken_line p) ≡ gives (bad n 0) (taken_line p) (board (taken s) m q)
      → (lawful s && line_lawful p) ≡ true → taking s p m q made ≡ answered (record { state = s; pieces = p; number = n; place = 0 }) m q
  taking_same s p n e h =
      let b = both (lawful s) (line_lawful p) h in
      taking_is s p h
      ∙ ap answer_of e
      ∙ ap₂ (λ (x : Registers) (y : Pieces). answered (record { state = x; pieces = y; number = n; place = 0 }) m q) (handed_taken s b.0) (line_handed_taken p b.1)

-- ---- the exports

module _ (v : Vram) (p : Below) (m q : List ℕ) where
  pub take_handed : (piece : List ℕ) → take_call (handed v) (handed_line p) m q piece ≡ answer_of (below_take p piece (board v m q))
  unfolding take_call
  take_handed piece = taking_handed m q (λ x l. below_take l piece (board x m q)) v p

  pub end_handed : end_call (handed v) (handed_line p) m q ≡ answer_of (below_end p (board v m q))
  unfolding end_call
  end_handed = taking_handed m q (λ x l. below_end l (board x m q)) v p

module _ (s : Registers) (p : Pieces) (m q : List ℕ) where
  -- what no `Vram` or no line can be: 1, and all as it came
  module _ (h : (lawful s && line_lawful p) ≡ false) where
    pub take_excluded : (piece : List ℕ) → take_call s p m q piece ≡ answered (excluded_taken s p) m q
    unfolding take_call
    take_excluded piece = sym (taking_excluded m q (λ v l. below_take l piece (board v m q)) s p h)

    pub end_excluded : end_call s p m q ≡ answered (excluded_taken s p) m q
    unfolding end_call
    end_excluded = sym (taking_excluded m q (λ v l. below_end l (board v m q)) s p h)

  -- the other way out, by what the code has
  module _ (h : (lawful s && line_lawful p) ≡ true) (v : Vram) (e : v ≡ taken s) (l : Below) (f : l ≡ taken_line p) (r : BelowTaken) (m' q' : List ℕ)
      (answer : Taken) (k : answer ≡ handed_below_taken r) where
    pub take_done : (piece : List ℕ) → outcome r m' q' ≡ below_take l piece (board v m q) → answered answer m' q' ≡ take_call s p m q piece
    unfolding take_call
    take_done piece g = taking_done m q (λ x y. below_take y piece (board x m q)) s p h v e l f r m' q' g answer k

    pub end_done : outcome r m' q' ≡ below_end l (board v m q) → answered answer m' q' ≡ end_call s p m q
    unfolding end_call
    end_done g = taking_done m q (λ x y. below_end y (board x m q)) s p h v e l f r m' q' g answer k

  -- 1 for what no pieces could make, and 1 to 3: all as it came, and no byte is taken
  module _ (h : (lawful s && line_lawful p) ≡ true) (n : first_number (taken_line p) (board (taken s) m q) ≢ 0) where
    abbrev back : Answered
    back = answered (record { state = s; pieces = p; number = first_number (taken_line p) (board (taken s) m q); place = 0 }) m q

    pub take_first : (piece : List ℕ) → take_call s p m q piece ≡ back
    unfolding take_call
    take_first piece = taking_same m q (λ v l. below_take l piece (board v m q)) s p _ ((first_nothing (taken_line p) (board (taken s) m q) n).0 piece) h

    pub end_first : end_call s p m q ≡ back
    unfolding end_call
    end_first = taking_same m q (λ v l. below_end l (board v m q)) s p _ (first_nothing (taken_line p) (board (taken s) m q) n).1 h
