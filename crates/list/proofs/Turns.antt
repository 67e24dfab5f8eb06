-- One turn of each loop, in the terms that the code has: s is what is left of the list, n its first body's length. Assumes nothing.
use Rattle.std.proofs.Common.{◌≡◌, refl, sym, ap, ap₂, ◌∙◌, Bool, true, false, ◌||◌, List, [], ◌∷◌, ◌≢◌, ℕ, ◌+◌, ◌-◌, ◌≤◌, ◌<◌, arith, eqb, length, take, drop, length-drop, take_all, cond, eqb-true, ne_eqb}
use Rattle.vram.specs.declared.Cycle.{Cycle}
use Rattle.vram.specs.Board.{Board}
use Rattle.vram.specs.Refusal.{refusal}
use Rattle.vram.specs.Step.{step, run}
use Rattle.vram.specs.Calls.{Outcome, cycle_call}
use Rattle.vram.proofs.CaseLaws.{cycle_after, run_none, run_next}
use Rattle.list.specs.Meaning.{Bad}
use Rattle.std.specs.Prelude.{Option}
use Rattle.list.specs.Tags.{len_of, cycle_of}
use Rattle.list.specs.Fields.{tag, body, whole, field_of, size_of, fields}
use Rattle.list.proofs.FieldLaws.{whole_length, fields_nil, fields_whole, fields_not, field_not, readable_head, readable_tail}
use Rattle.list.specs.Open.{opens}
use Rattle.list.proofs.OpenLaws.{open_whole}
use Rattle.list.specs.Meaning.{number_of, bad, bad_at, readable, left_behind, judged, cycles_of}
use Rattle.list.proofs.VerdictLaws.{size_whole, number_whole, made_whole, cycles_whole, accepted_whole, cycles_nil}
use Rattle.list.proofs.JudgeLaws.{judged_nil, judged_good, judged_bad}

-- ---- parts of a slice

module _ (s : List ℕ) (n : ℕ) (e : n ≡ len_of (tag s)) where
  -- the body
  pub body_part : take (3 + n - 3) (drop 3 s) ≡ body s
  body_part = let m : 3 + n - 3 ≡ len_of (tag s) = omega arith in ap (λ (k : ℕ). take k (drop 3 s)) m

  -- what follows the field
  pub rest_part : take (length s - (3 + n)) (drop (3 + n) s) ≡ drop (3 + len_of (tag s)) s
  rest_part = take_all (length s - (3 + n)) (drop (3 + n) s) (rw length-drop (omega arith)) ∙ ap (λ (k : ℕ). drop (3 + k) s) e

  rest_length : length (take (length s - (3 + n)) (drop (3 + n) s)) ≡ length s - (3 + n)
  rest_length = ap length rest_part ∙ (simp length-drop (omega arith))

  -- is shorter
  pub rest_less : 3 + n ≤ length s → length (take (length s - (3 + n)) (drop (3 + n) s)) < length s
  rest_less h = omega (arith, rest_length)

  pub rest_within : (total : ℕ) → length s ≤ total → length (take (length s - (3 + n)) (drop (3 + n) s)) ≤ total
  rest_within total h = omega (arith, rest_length)

-- ---- the number of a field

pub number_of_body : (rows : ℕ) (made : Bool) (s : List ℕ) (n : ℕ) → n ≡ len_of (tag s) → whole s ≡ true
    → refusal rows made (cycle_of (tag s) (take (3 + n - 3) (drop 3 s))) ≡ number_of rows made (field_of s)
number_of_body rows made s n e w = ap (λ (b : List ℕ). refusal rows made (cycle_of (tag s) b)) (body_part s n e) ∙ sym (number_whole s w rows made)

-- ---- a write and a colour load leave what the checking loop carries

pub fill_loads : (t : ℕ) (made : Bool) → t ≤ 3 → made ≡ (made || eqb t 6)
fill_loads t made h = rw (ne_eqb t 6 (λ e. omega arith)) (go made)
  where
    go : (p : Bool) → p ≡ (p || false)
    go true = refl
    go false = refl

pub fill_opens : (t at : ℕ) (left : Option ℕ) → t ≤ 3 → left ≡ opens t at left
unfolding opens
fill_opens t at left h = rw (ne_eqb t 4 (λ e. omega arith), ne_eqb t 5 (λ e. omega arith))

-- a field that gives zeros is not refused
pub at_zero : (number place : ℕ) → bad 0 0 ≡ bad_at number place → number ≡ 0
at_zero number place e = go (eqb number 0) refl e
  where
    go : (t : Bool) → eqb number 0 ≡ t → bad 0 0 ≡ cond t (bad 0 0) (bad number place) → number ≡ 0
    go true q h = eqb-true number 0 q
    go false q h = sym (ap (λ (x : Bad). x.number) h)

-- ---- the checking loop; v is what is answered

module _ (rows : ℕ) (made : Bool) (left : Option ℕ) (s : List ℕ) where
  module _ (v : Bad) (at : ℕ) where
    pub end_check : length s ≡ 0 → v ≡ left_behind left → v ≡ judged rows made left at (fields s)
    end_check h e = e ∙ sym (ap (judged rows made left at) (fields_nil s (omega arith)) ∙ judged_nil rows made left at)

    pub turn_bad : 0 < length s → v.number ≢ 0 → v ≡ bad_at (number_of rows made (field_of s)) at → v ≡ judged rows made left at (fields s)
    turn_bad p h e = e ∙ given ∙ go (whole s) refl
      where
        k : ℕ
        k = number_of rows made (field_of s)

        some : k ≢ 0
        some z = h (ap (λ (x : Bad). x.number) (e ∙ ap (λ (n : ℕ). bad_at n at) z))

        given : bad_at k at ≡ bad k at
        given = simp (ne_eqb k 0 some)

        refused : (fs : _) → fields s ≡ field_of s ∷ fs → bad k at ≡ judged rows made left at (fields s)
        refused fs q = sym (ap (judged rows made left at) q ∙ judged_bad rows made left at (field_of s) fs some)

        go : (t : Bool) → whole s ≡ t → bad k at ≡ judged rows made left at (fields s)
        go true q = refused _ (fields_whole s q)
        go false q = refused [] (rw (field_not s q) (fields_not s p q))

  module _ (at : ℕ) (e : bad 0 0 ≡ bad_at (number_of rows made (field_of s)) at) (n : ℕ) (m : n ≡ len_of (tag s)) where
    z : number_of rows made (field_of s) ≡ 0
    z = at_zero (number_of rows made (field_of s)) at e

    good : whole s ≡ true
    good = accepted_whole s rows made z

    pub turn_fits : 3 + n ≤ length s
    turn_fits = omega (arith, whole_length s good)

    pub turn_good : (total : ℕ) → length s ≤ total → (m' : Bool) (o : Option ℕ) → m' ≡ (made || eqb (tag s) 6) → o ≡ opens (tag s) (total - length s) left
        → judged rows m' o (total - length (take (length s - (3 + n)) (drop (3 + n) s))) (fields (take (length s - (3 + n)) (drop (3 + n) s)))
        ≡ judged rows made left (total - length s) (fields s)
    turn_good total l m' o t u =
        let f = turn_fits in
        let r = rest_length s n m in
        let y = size_whole s good in
        let at = total - length s in
        let a : total - length (take (length s - (3 + n)) (drop (3 + n) s)) ≡ at + size_of (field_of s) = omega arith in
        ap₂ (judged rows m' o) a (ap fields (rest_part s n m))
        ∙ ap₂ (λ (y : Bool) (x : Option ℕ). judged rows y x (at + size_of (field_of s)) (fields (drop (3 + len_of (tag s)) s))) (t ∙ sym (made_whole s good made))
        (u ∙ sym (open_whole s good at left))
        ∙ sym (ap (judged rows made left at) (fields_whole s good) ∙ judged_good rows made left at (field_of s) _ z)

-- ---- the running loop

pub end_run : (b : Board) (s : List ℕ) → length s ≤ 0 → b ≡ run (cycles_of s) b
end_run b s h = sym (ap (λ (l : List Cycle). run l b) (cycles_nil s h) ∙ run_none step b)

module _ (s : List ℕ) (p : 0 < length s) (r : readable (fields s) ≡ true) (n : ℕ) (m : n ≡ len_of (tag s)) where
  pub run_fits : 3 + n ≤ length s
  run_fits = omega (arith, whole_length s (readable_head s p r))

  pub run_readable : readable (fields (take (length s - (3 + n)) (drop (3 + n) s))) ≡ true
  run_readable = ap (λ (t : List ℕ). readable (fields t)) (rest_part s n m) ∙ readable_tail s p r

  pub turn_run : (b : Board) (c : Cycle) → c ≡ cycle_of (tag s) (take (3 + n - 3) (drop 3 s)) → (o : Outcome) → o ≡ cycle_call c b
      → run (cycles_of (take (length s - (3 + n)) (drop (3 + n) s))) o.after ≡ run (cycles_of s) b
  turn_run b c e o a =
      let d : c ≡ cycle_of (tag s) (body s) = e ∙ ap (cycle_of (tag s)) (body_part s n m) in
      let x : o.after ≡ step (cycle_of (tag s) (body s)) b = ap (λ (y : Outcome). y.after) a ∙ cycle_after c b ∙ ap (λ (y : Cycle). step y b) d in
      ap₂ (λ (t : List ℕ) (y : Board). run (cycles_of t) y) (rest_part s n m) x
      ∙ sym (ap (λ (l : List Cycle). run l b) (cycles_whole s (readable_head s p r)) ∙ run_next step (cycle_of (tag s) (body s)) _ b)
