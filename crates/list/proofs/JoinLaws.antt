-- Laws of joined lists: one, then another. Assumes nothing.
use Rattle.std.specs.Prelude.{◌≡◌, refl, Bool, true, false, cond, List, [], ◌∷◌, ◌++◌, ℕ, ◌+◌, eqb, length}
use Rattle.std.proofs.Common.{sym, ap, ap₂, ◌∙◌, arith, add_assoc, add-zero, eqb-true}
use Rattle.vram.specs.declared.Cycle.{Cycle}
use Rattle.vram.specs.Board.{Board}
use Rattle.vram.specs.Step.{given_of, rows_of, step, run}
use Rattle.vram.specs.StepLaws.{run_append}
use Rattle.vram.proofs.KeptLaws.{step_loaded}
use Rattle.vram.proofs.CaseLaws.{run_none, run_next, run_rows, run_given}
use Rattle.list.specs.Meaning.{Bad}
use Rattle.std.specs.Prelude.{Option}
use Rattle.std.specs.Prelude.Option.{None, Some}
use Rattle.list.specs.Fields.{Field, Reads, Unreadable, size_of, fields}
use Rattle.list.proofs.FieldLaws.{fields_append}
use Rattle.list.specs.Open.{open_after, open_of}
use Rattle.list.proofs.OpenLaws.{open_append, open_from, open_further}
use Rattle.list.specs.Meaning.{number_of, made_by, bad, verdict, cycles, readable, left_behind, first_bad, judged, cycles_of, verdict_of, run_call}
use Rattle.list.proofs.VerdictLaws.{verdict_good, accepted_head, accepted_tail}
use Rattle.list.specs.Joined.{made_by_all, sizes, further, further_open, decided}
use Rattle.list.proofs.CountLaws.{sizes_all}
use Rattle.list.proofs.PerformLaws.{Passes, first_acts, others_pass, unreadable_refused, list_passes}
use Rattle.list.proofs.CallLaws.{accepted_readable, verdict_judged, accepted_given, accepted_closed, call_runs}

-- ---- fields one after the other

pub cycles_append : (fs gs : List Field) → cycles (fs ++ gs) ≡ cycles fs ++ cycles gs
unfolding cycles
cycles_append [] gs = refl
cycles_append (Reads c n ∷ fs) gs = ap (λ (l : List Cycle). c ∷ l) (cycles_append fs gs)
cycles_append (Unreadable ∷ fs) gs = cycles_append fs gs

pub verdict_append : (rows : ℕ) (made : Bool) (at : ℕ) (fs gs : List Field) → (verdict rows made at fs).number ≡ 0
    → verdict rows made at (fs ++ gs) ≡ verdict rows (made_by_all fs made) (at + sizes fs) gs
unfolding made_by_all sizes
verdict_append rows made at [] gs h = rw (add-zero at)
verdict_append rows made at (f ∷ fs) gs h =
    verdict_good rows made at f (fs ++ gs) (accepted_head rows made at f fs h)
    ∙ verdict_append rows (made_by f made) (at + size_of f) fs gs (accepted_tail rows made at f fs h)
    ∙ ap (λ (n : ℕ). verdict rows (made_by_all fs (made_by f made)) n gs) (add_assoc at (size_of f) (sizes fs))

-- fields that pass, then others: those are judged with what the first have left
pub judged_append : (rows : ℕ) (made : Bool) (left : Option ℕ) (at : ℕ) (fs gs : List Field) → (verdict rows made at fs).number ≡ 0
    → judged rows made left at (fs ++ gs) ≡ judged rows (made_by_all fs made) (open_after at fs left) (at + sizes fs) gs
unfolding judged
judged_append rows made left at fs gs h =
    ap₂ (λ (v : Bad) (o : Option ℕ). first_bad v (left_behind o)) (verdict_append rows made at fs gs h) (open_append at fs gs left)

-- ---- fields further on in the bytes

pub verdict_further : (n rows : ℕ) (made : Bool) (at : ℕ) (fs : List Field) → verdict rows made (n + at) fs ≡ further n (verdict rows made at fs)
unfolding verdict further
verdict_further n rows made at [] = refl
verdict_further n rows made at (f ∷ fs) = go (eqb (number_of rows made f) 0) refl (verdict_further n rows (made_by f made) (at + size_of f) fs)
  where
    go : (t : Bool) → eqb (number_of rows made f) 0 ≡ t
        → verdict rows (made_by f made) (n + (at + size_of f)) fs ≡ further n (verdict rows (made_by f made) (at + size_of f) fs)
        → cond t (verdict rows (made_by f made) (n + at + size_of f) fs) (bad (number_of rows made f) (n + at))
        ≡ further n (cond t (verdict rows (made_by f made) (at + size_of f) fs) (bad (number_of rows made f) at))
    go true q ih = rw add_assoc ih
    go false q ih = rw q

further_number : (n : ℕ) (v : Bad) → (further n v).number ≡ v.number
unfolding further
further_number n v = go (eqb v.number 0) refl
  where
    go : (t : Bool) → eqb v.number 0 ≡ t → (cond t (bad 0 0) (bad v.number (n + v.place))).number ≡ v.number
    go true q = sym (eqb-true _ _ q)
    go false q = refl

further_first : (n : ℕ) (v later : Bad) → first_bad (further n v) (further n later) ≡ further n (first_bad v later)
unfolding first_bad further
further_first n v later = go (eqb v.number 0) refl
  where
    go : (t : Bool) → eqb v.number 0 ≡ t
        → first_bad (cond t (bad 0 0) (bad v.number (n + v.place))) (further n later) ≡ further n (cond t later v)
    go true q = refl
    go false q = rw q

further_left : (n : ℕ) (left : Option ℕ) → left_behind (further_open n left) ≡ further n (left_behind left)
unfolding left_behind further
further_left n None = refl
further_left n (Some place) = refl

pub judged_further : (n rows : ℕ) (made : Bool) (left : Option ℕ) (at : ℕ) (fs : List Field)
    → judged rows made (further_open n left) (n + at) fs ≡ further n (judged rows made left at fs)
unfolding judged
judged_further n rows made left at fs =
    ap₂ first_bad (verdict_further n rows made at fs) (ap left_behind (open_further n at fs left) ∙ further_left n (open_after at fs left))
    ∙ further_first n (verdict rows made at fs) (left_behind (open_after at fs left))

-- ---- what the check carried is what the run leaves: `loaded` at the end of accepted fields

pub run_loaded : (at : ℕ) (fs : List Field) (b : Board) → Passes at fs b → (run (cycles fs) b).state.loaded ≡ made_by_all fs b.state.loaded
unfolding cycles made_by_all made_by
run_loaded at [] b a = ap (λ (x : Board). x.state.loaded) (run_none step b)
run_loaded at (Reads c n ∷ fs) b a =
    ap (λ (x : Board). x.state.loaded) (run_next step c (cycles fs) b)
    ∙ run_loaded (at + size_of (Reads c n)) fs (step c b) (others_pass at c n fs b a)
    ∙ ap (made_by_all fs) (step_loaded b c (first_acts at c n fs b a))
run_loaded at (Unreadable ∷ fs) b a = absurd (unreadable_refused at fs b a)

-- ---- a list whose fields can be read, then another

module _ (a b : List ℕ) (r : readable (fields a) ≡ true) where
  pub joined_cycles : cycles_of (a ++ b) ≡ cycles_of a ++ cycles_of b
  joined_cycles = ap cycles (fields_append a b r) ∙ cycles_append (fields a) (fields b)

  -- the open mask load, from those of the parts: the second's where one of its fields decides, and else the first's
  pub joined_open : open_of (a ++ b) ≡ cond (decided (fields b)) (further_open (length a) (open_of b)) (open_of a)
  joined_open =
      let e : 0 + sizes (fields a) ≡ length a + 0 = omega (arith, sizes_all a r) in
      ap (λ (fs : List Field). open_after 0 fs None) (fields_append a b r)
      ∙ open_append 0 (fields a) (fields b) None
      ∙ ap (λ (n : ℕ). open_after n (fields b) (open_of a)) e
      ∙ open_from (length a + 0) (fields b) (open_of a)
      ∙ ap (λ (o : Option ℕ). cond (decided (fields b)) o (open_of a)) (open_further (length a) 0 (fields b) None)

-- ---- a list whose fields pass, then another

module _ (a : List ℕ) (x : Board) (p : Passes 0 (fields a) x) where
  passed_readable : readable (fields a) ≡ true
  passed_readable = accepted_readable (rows_of x) x.state.loaded 0 (fields a) p.none

  -- whether it leaves a mask load open or not, the second is judged on what it leaves, from where it ends
  pub joined_judged : (b : List ℕ)
      → let y = run (cycles_of a) x in verdict_of (a ++ b) x ≡ judged (rows_of y) y.state.loaded (open_of a) (length a) (fields b)
  joined_judged b =
      let m = made_by_all (fields a) x.state.loaded in
      let e : 0 + sizes (fields a) ≡ length a = omega (arith, sizes_all a passed_readable) in
      verdict_judged (a ++ b) x p.given
      ∙ ap (judged (rows_of x) x.state.loaded None 0) (fields_append a b passed_readable)
      ∙ judged_append (rows_of x) x.state.loaded None 0 (fields a) (fields b) p.none
      ∙ ap (λ (n : ℕ). judged (rows_of x) m (open_of a) n (fields b)) e
      ∙ sym
      (ap₂ (λ (k : ℕ) (made : Bool). judged k made (open_of a) (length a) (fields b)) (run_rows (cycles_of a) x) (run_loaded 0 (fields a) x p))

-- ---- an accepted list

module _ (a : List ℕ) (x : Board) (h : (verdict_of a x).number ≡ 0) where
  -- each of its fields can be read
  pub call_readable : readable (fields a) ≡ true
  call_readable = passed_readable a x (list_passes a x h)

  -- `loaded` at the end of an accepted list
  pub call_loaded : (run_call a x).after.state.loaded ≡ made_by_all (fields a) x.state.loaded
  call_loaded = ap (λ (y : Board). y.state.loaded) (call_runs a x h) ∙ run_loaded 0 (fields a) x (list_passes a x h)

  call_given_kept : given_of (run_call a x).after ≡ 0
  call_given_kept = ap given_of (call_runs a x h) ∙ run_given (cycles_of a) x ∙ accepted_given a x h

-- ---- an accepted list, then another

module _ (a b : List ℕ) (x : Board) (h : (verdict_of a x).number ≡ 0) where
  -- the second is judged on what the first leaves, its places counted from the joined list's first byte
  pub joined_verdict : verdict_of (a ++ b) x ≡ further (length a) (verdict_of b (run_call a x).after)
  joined_verdict =
      let y = (run_call a x).after in
      joined_judged a x (list_passes a x h) b
      ∙ ap (λ (z : Board). judged (rows_of z) z.state.loaded (open_of a) (length a) (fields b)) (sym (call_runs a x h))
      ∙ ap₂ (λ (o : Option ℕ) (n : ℕ). judged (rows_of y) y.state.loaded o n (fields b)) (accepted_closed a x h) (sym (add-zero (length a)))
      ∙ judged_further (length a) (rows_of y) y.state.loaded None 0 (fields b)
      ∙ ap (further (length a)) (sym (verdict_judged b y (call_given_kept a x h)))

  pub joined_number : (verdict_of (a ++ b) x).number ≡ (verdict_of b (run_call a x).after).number
  joined_number = ap (λ (v : Bad). v.number) joined_verdict ∙ further_number (length a) (verdict_of b (run_call a x).after)

  -- both accepted: the second runs on what the first leaves
  pub joined_run : (verdict_of b (run_call a x).after).number ≡ 0 → (run_call (a ++ b) x).after ≡ (run_call b (run_call a x).after).after
  joined_run k =
      call_runs (a ++ b) x (joined_number ∙ k)
      ∙ ap (λ (l : List Cycle). run l x) (joined_cycles a b (call_readable a x h))
      ∙ run_append step (cycles_of a) (cycles_of b) x
      ∙ ap (run (cycles_of b)) (sym (call_runs a x h))
      ∙ sym (call_runs b (run_call a x).after k)
