-- Bytes that come one after the other come to what the fields of them all come to; and that is what the whole list is answered with, and what
-- its fields before the refused one draw. Assumes nothing.
use Rattle.std.specs.Prelude.{◌≡◌, refl, Bool, true, false, cond, List, [], ◌∷◌, ◌++◌, ◌≢◌, ℕ, ◌+◌, ◌≤◌, eqb, length}
use Rattle.std.proofs.Common.{sym, ap, ap₂, ◌∙◌, append_assoc, append-nil, arith, length-append, eq-eqb, ne_eqb, eqb-true}
use Rattle.std.proofs.lemmas.Bool.{eqb-false}
use Rattle.vram.specs.declared.Cycle.{Cycle}
use Rattle.vram.specs.Board.{Board}
use Rattle.vram.specs.Step.{given_of, rows_of, step, run}
use Rattle.vram.proofs.KeptLaws.{step_loaded}
use Rattle.vram.proofs.RuleLaws.{step_given}
use Rattle.vram.proofs.CaseLaws.{run_none, run_next, step_rows, number_is}
use Rattle.list.specs.Meaning.{Bad}
use Rattle.std.specs.Prelude.{Option}
use Rattle.list.specs.Fields.{Field, Reads, Unreadable, whole, field_of, size_of, fields}
use Rattle.list.proofs.FieldLaws.{fields_nil}
use Rattle.list.specs.Open.{open_by}
use Rattle.list.specs.Meaning.{number_of, made_by, bad, verdict, cycles, left_behind, judged, Outcome, gives}
use Rattle.list.proofs.VerdictLaws.{number_reads, made_reads, cycles_reads, number_unreadable, cycles_none, size_whole, number_not, accepted_head, accepted_tail}
use Rattle.list.proofs.JudgeLaws.{judged_nil, judged_good, judged_bad}
use Rattle.list.specs.Waits.{waits}
use Rattle.list.proofs.WaitsLaws.{waits_nil, settled_length, settled_fields, waits_fields}
use Rattle.pieces.specs.Line.{line, refused, Port, port, limit, number_on, draws, met, come, piece}
use Rattle.pieces.proofs.LineLaws.{met_run, met_refused, come_waits, come_settled, feed_in, refused_stays, last_kept, last_cut, last_left}
use Rattle.pieces.specs.Meant.{meant, passing, ended}

-- ---- field by field

meant_nil : (at : ℕ) (left : Option ℕ) (b : Board) → meant at [] left b ≡ gives (left_behind left) b
unfolding meant
meant_nil at left b = refl

module _ (at : ℕ) (f : Field) (fs : List Field) (left : Option ℕ) (b : Board) where
  meant_run : number_on f b ≡ 0 → meant at (f ∷ fs) left b ≡ meant (at + size_of f) fs (open_by at f left) (draws f b)
  unfolding meant
  meant_run z = rw (eq-eqb (number_on f b) 0 z)

  meant_refused : number_on f b ≢ 0 → meant at (f ∷ fs) left b ≡ gives (bad (number_on f b) at) b
  unfolding meant
  meant_refused n = rw (ne_eqb (number_on f b) 0 n)

-- ---- the end of the bytes

done : (h : List ℕ) (at : ℕ) (left : Option ℕ) (b : Board) → waits h ≡ true → ended (port (line h at 0 left) b) ≡ meant at (fields h) left b
done [] at left b k =
    ap (λ (v : Bad). gives v b) (last_left (line [] at 0 left) refl refl)
    ∙ sym (ap (λ (fs : List Field). meant at fs left b) (fields_nil [] (omega arith)) ∙ meant_nil at left b)
done (x ∷ h) at left b k =
    ap (λ (v : Bad). gives v b) (last_cut (line (x ∷ h) at 0 left) refl (λ z. omega arith))
    ∙ sym
    (ap (λ (fs : List Field). meant at fs left b) (waits_fields (x ∷ h) (omega arith) k)
    ∙ meant_refused at Unreadable [] left b (λ z. omega (arith, number_unreadable (rows_of b) b.state.loaded, z))
    ∙ ap (λ (n : ℕ). gives (bad n at) b) (number_unreadable (rows_of b) b.state.loaded))

-- ---- bytes after waiting ones, if it is so for those after the first of them

module _ (x : ℕ) (s h : List ℕ) (at : ℕ) (left : Option ℕ) (b : Board) (k : waits h ≡ true) (l : at + (length h + length (x ∷ s)) ≤ limit)
    (ih : (h : List ℕ) (at : ℕ) (left : Option ℕ) (b : Board) → waits h ≡ true → at + (length h + length s) ≤ limit
    → ended (piece (port (line h at 0 left) b) s) ≡ meant at (fields (h ++ s)) left b) where
  abbrev t : List ℕ
  t = h ++ x ∷ []

  longer : length t ≡ length h + 1
  longer = simp length-append

  -- the byte makes a field, or bytes that none can be
  refuses : (fs : List Field) → number_on (field_of t) b ≢ 0 → ended (piece (met at (field_of t) left b) s) ≡ meant at (field_of t ∷ fs) left b
  refuses fs n =
      let r = refused (number_on (field_of t) b) at in
      ap (λ (p : Port). ended (piece p s)) (met_refused at (field_of t) left b n)
      ∙ ap ended (refused_stays s (port r b) n)
      ∙ ap (λ (v : Bad). gives v b) (last_kept r n)
      ∙ sym (meant_refused at (field_of t) fs left b n)

  runs : whole t ≡ true → number_on (field_of t) b ≡ 0 → ended (piece (met at (field_of t) left b) s) ≡ meant at (field_of t ∷ fields s) left b
  runs w z =
      let e : size_of (field_of t) ≡ length h + 1 = size_whole t w ∙ sym (settled_length h x k w) ∙ longer in
      ap (λ (p : Port). ended (piece p s)) (met_run at (field_of t) left b z)
      ∙ ih [] (at + size_of (field_of t)) (open_by at (field_of t) left) (draws (field_of t) b) waits_nil (omega arith)
      ∙ sym (meant_run at (field_of t) (fields s) left b z)

  settles : (u : Bool) → whole t ≡ u → (v : Bool) → eqb (number_on (field_of t) b) 0 ≡ v
      → ended (piece (met at (field_of t) left b) s) ≡ meant at (field_of t ∷ cond u (fields s) []) left b
  settles true w true e = runs w (eqb-true _ _ e)
  settles false w true e = absurd (omega (arith, number_not t w (rows_of b) b.state.loaded, eqb-true (number_on (field_of t) b) 0 e))
  settles u w false e = refuses (cond u (fields s) []) (eqb-false _ _ e)

  comes : (u : Bool) → waits t ≡ u → ended (piece (come at t left b) s) ≡ meant at (fields (t ++ s)) left b
  comes true q = ap (λ (p : Port). ended (piece p s)) (come_waits at t left b q) ∙ ih t at left b q (omega (arith, longer))
  comes false q =
      ap (λ (p : Port). ended (piece p s)) (come_settled at t left b q)
      ∙ settles (whole t) refl (eqb (number_on (field_of t) b) 0) refl
      ∙ ap (λ (fs : List Field). meant at fs left b) (sym (settled_fields h x s k q))

pub bytes_meant : (s h : List ℕ) (at : ℕ) (left : Option ℕ) (b : Board) → waits h ≡ true → at + (length h + length s) ≤ limit
    → ended (piece (port (line h at 0 left) b) s) ≡ meant at (fields (h ++ s)) left b
bytes_meant [] h at left b k l = done h at left b k ∙ ap (λ (t : List ℕ). meant at (fields t) left b) (sym (append-nil h))
bytes_meant (x ∷ s) h at left b k l =
    ap (λ (p : Port). ended (piece p s)) (feed_in (port (line h at 0 left) b) x refl (omega arith))
    ∙ comes x s h at left b k l (bytes_meant s) (waits (h ++ x ∷ [])) refl
    ∙ ap (λ (t : List ℕ). meant at (fields t) left b) (append_assoc h (x ∷ []) s)

-- ---- an accepted field on a board where 1 to 3 pass: what it keeps, and what it says for those after it

module _ (f : Field) (b : Board) (g : given_of b ≡ 0) (z : number_on f b ≡ 0) where
  pub record Drawn : Type 0 where
    pub given : given_of (draws f b) ≡ 0
    pub rows : rows_of (draws f b) ≡ rows_of b
    pub loaded : (draws f b).state.loaded ≡ made_by f b.state.loaded

field_drawn : (f : Field) (b : Board) (g : given_of b ≡ 0) (z : number_on f b ≡ 0) → Drawn f b g z
unfolding draws
field_drawn (Reads c n) b g z =
    record {
      given = step_given c b ∙ g;
      rows = step_rows c b;
      loaded =
          step_loaded b c (number_is c b g ∙ sym (number_reads c n (rows_of b) b.state.loaded) ∙ z) ∙ sym (made_reads c n b.state.loaded);
    }
field_drawn Unreadable b g z = absurd (omega (arith, number_unreadable (rows_of b) b.state.loaded, z))

-- ---- judged as they run, fields get the number and the place that they get when all are judged before

pub meant_given : (fs : List Field) (at : ℕ) (left : Option ℕ) (b : Board) → given_of b ≡ 0
    → (meant at fs left b).given ≡ judged (rows_of b) b.state.loaded left at fs
meant_given [] at left b g = ap (λ (o : Outcome). o.given) (meant_nil at left b) ∙ sym (judged_nil (rows_of b) b.state.loaded left at)
meant_given (f ∷ fs) at left b g = go (eqb (number_on f b) 0) refl (meant_given fs (at + size_of f) (open_by at f left) (draws f b))
  where
    go : (t : Bool) → eqb (number_on f b) 0 ≡ t
        → (given_of (draws f b) ≡ 0
        → (meant (at + size_of f) fs (open_by at f left) (draws f b)).given
        ≡ judged (rows_of (draws f b)) (draws f b).state.loaded (open_by at f left) (at + size_of f) fs)
        → (meant at (f ∷ fs) left b).given ≡ judged (rows_of b) b.state.loaded left at (f ∷ fs)
    go true q ih =
        let z = eqb-true _ _ q in
        let d = field_drawn f b g z in
        ap (λ (o : Outcome). o.given) (meant_run at f fs left b z)
        ∙ ih d.given
        ∙ ap₂ (λ (rows : ℕ) (made : Bool). judged rows made (open_by at f left) (at + size_of f) fs) d.rows d.loaded
        ∙ sym (judged_good (rows_of b) b.state.loaded left at f fs z)
    go false q ih =
        let n = eqb-false _ _ q in
        ap (λ (o : Outcome). o.given) (meant_refused at f fs left b n) ∙ sym (judged_bad (rows_of b) b.state.loaded left at f fs n)

-- ---- and what is drawn is what those before the refused one draw

draws_cycle : (f : Field) (fs : List Field) (b : Board) → number_on f b ≡ 0 → run (cycles (f ∷ fs)) b ≡ run (cycles fs) (draws f b)
unfolding draws
draws_cycle (Reads c n) fs b z = ap (λ (l : List Cycle). run l b) (cycles_reads c n fs) ∙ run_next step c (cycles fs) b
draws_cycle Unreadable fs b z = absurd (omega (arith, number_unreadable (rows_of b) b.state.loaded, z))

no_cycles : (b : Board) → b ≡ run (cycles []) b
no_cycles b = sym (ap (λ (l : List Cycle). run l b) cycles_none ∙ run_none step b)

pub meant_after : (fs : List Field) (at : ℕ) (left : Option ℕ) (b : Board) → given_of b ≡ 0
    → (meant at fs left b).after ≡ run (cycles (passing (rows_of b) b.state.loaded fs)) b
unfolding passing
meant_after [] at left b g = ap (λ (o : Outcome). o.after) (meant_nil at left b) ∙ no_cycles b
meant_after (f ∷ fs) at left b g = go (eqb (number_on f b) 0) refl (meant_after fs (at + size_of f) (open_by at f left) (draws f b))
  where
    go : (t : Bool) → eqb (number_on f b) 0 ≡ t
        → (given_of (draws f b) ≡ 0 → (meant (at + size_of f) fs (open_by at f left) (draws f b)).after
        ≡ run (cycles (passing (rows_of (draws f b)) (draws f b).state.loaded fs)) (draws f b))
        → (meant at (f ∷ fs) left b).after ≡ run (cycles (cond t (f ∷ passing (rows_of b) (made_by f b.state.loaded) fs) [])) b
    go true q ih =
        let z = eqb-true _ _ q in
        let d = field_drawn f b g z in
        ap (λ (o : Outcome). o.after) (meant_run at f fs left b z)
        ∙ ih d.given
        ∙ ap₂ (λ (rows : ℕ) (made : Bool). run (cycles (passing rows made fs)) (draws f b)) d.rows d.loaded
        ∙ sym (draws_cycle f (passing (rows_of b) (made_by f b.state.loaded) fs) b z)
    go false q ih = ap (λ (o : Outcome). o.after) (meant_refused at f fs left b (eqb-false _ _ q)) ∙ no_cycles b

-- where none is refused, all pass
pub all_pass : (rows : ℕ) (made : Bool) (at : ℕ) (fs : List Field) → (verdict rows made at fs).number ≡ 0 → passing rows made fs ≡ fs
unfolding passing
all_pass rows made at [] h = refl
all_pass rows made at (f ∷ fs) h =
    rw (eq-eqb (number_of rows made f) 0 (accepted_head rows made at f fs h))
    (ap (λ (gs : List Field). f ∷ gs) (all_pass rows (made_by f made) (at + size_of f) fs (accepted_tail rows made at f fs h)))
