-- Laws of a walk from marked row to marked row. Assumes nothing.
use Rattle.std.specs.Prelude.{◌≡◌, Bool, ◌≢◌, length}
use Rattle.std.proofs.Math.Path.{refl, ap}
use Rattle.std.proofs.Common.{sym, ◌∙◌, List, ◌∷◌, ℕ, zero, suc, ◌+◌, ◌-◌, ◌≤◌, ◌<◌, arith, ne_eqb, eqb-true}
use Rattle.std.proofs.Math.Bool.{true, false, cond}
use Rattle.std.proofs.Math.Nat.{zero-add}
use Rattle.std.proofs.Math.Decide.{dec_le}
use Rattle.std.proofs.Math.Dec.{eqb}
use borrow.Author.Tests.{eqb-false}
use Rattle.words.specs.Bit.{digit}
use Rattle.std.specs.Prelude.{Option}
use Rattle.std.specs.Prelude.Option.{None, Some}
use Rattle.marks.specs.Marks.{is_marked, first_marked, Least}
use Rattle.marks.proofs.NextLaws.{first_least}
use Rattle.marks.specs.Calls.{Marked, next_call}
use Rattle.marks.proofs.CallLaws.{next_5, next_finds}
use Rattle.marks.specs.Walk.{goes_on, visited_by, visited, marked_rows, how_often}

-- two searches that find the same visit the same rows
pub visited_same : (f g : ℕ → Option ℕ) → ((s : ℕ) → f s ≡ g s) → (k start : ℕ) → visited_by f k start ≡ visited_by g k start
unfolding visited_by
visited_same f g h zero start = refl
visited_same f g h (suc k) start = ap (λ (x : Option ℕ). goes_on x (visited_by f k)) (h start) ∙ case (g start) (visited_same f g h k)
  where
    case : (x : Option ℕ) → ((s : ℕ) → visited_by f k s ≡ visited_by g k s) → goes_on x (visited_by f k) ≡ goes_on x (visited_by g k)
    case None ih = refl
    case (Some r) ih = ap (λ (rows : List ℕ). r ∷ rows) (ih (suc r))

module _ (marks : List ℕ) where
  -- the marked rows are the first and those after it
  rows_first : (n r : ℕ) → marked_rows marks r n ≡ goes_on (first_marked marks r n) (λ s. marked_rows marks s (r + n - s))
  unfolding marked_rows first_marked
  rows_first zero r = refl
  rows_first (suc n) r = go (is_marked marks r) (rows_first n (suc r))
    where
      go : (t : Bool) → marked_rows marks (suc r) n ≡ goes_on (first_marked marks (suc r) n) (λ s. marked_rows marks s (suc r + n - s))
          → cond t (r ∷ marked_rows marks (suc r) n) (marked_rows marks (suc r) n)
          ≡ goes_on (cond t (Some r) (first_marked marks (suc r) n)) (λ s. marked_rows marks s (r + suc n - s))
      go true ih = let e : n ≡ r + suc n - suc r = omega arith in ap (λ (k : ℕ). r ∷ marked_rows marks (suc r) k) e
      go false ih =
          let e : suc r + n ≡ r + suc n = omega arith in
          ih ∙ ap (λ (m : ℕ). goes_on (first_marked marks (suc r) n) (λ s. marked_rows marks s (m - s))) e

  module _ (h : length marks ≡ 64) where
    -- the loop visits the marked rows in order, with any number of calls that would do for every row
    pub visits_rows : (k start : ℕ) → start ≤ 512 → 512 - start ≤ k → visited marks k start ≡ marked_rows marks start (512 - start)
    unfolding visited_by marked_rows
    visits_rows zero start l m = let e : 512 - start ≡ 0 = omega arith in rw e
    visits_rows (suc k) start l m = go (visits_rows k)
      where
        -- by what is found
        case : (f : Option ℕ) → Least marks start (start + (512 - start)) f → ((s : ℕ) → s ≤ 512 → 512 - s ≤ k → visited marks k s ≡ marked_rows marks s (512 - s))
            → goes_on f (visited marks k) ≡ goes_on f (λ s. marked_rows marks s (start + (512 - start) - s))
        case None z ih = refl
        case (Some s) z ih =
            let e : 512 - suc s ≡ start + (512 - start) - suc s = omega arith in
            ap (λ (rows : List ℕ). s ∷ rows) (ih (suc s) (omega (arith, z.1)) (omega (arith, z.0)) ∙ ap (marked_rows marks (suc s)) e)

        go : ((s : ℕ) → s ≤ 512 → 512 - s ≤ k → visited marks k s ≡ marked_rows marks s (512 - s))
            → goes_on (next_call marks start).found (visited marks k) ≡ marked_rows marks start (512 - start)
        go ih = elim (dec_le start 511) [
          | yes y ↦
              ap (λ (a : Marked). goes_on a.found (visited marks k)) (next_finds marks start h y)
              ∙ case (first_marked marks start (512 - start)) (first_least marks (512 - start) start) ih
              ∙ sym (rows_first (512 - start) start)
          | no y ↦
              let e : 512 - start ≡ 0 = omega arith in
              ap (λ (a : Marked). goes_on a.found (visited marks k)) (next_5 marks start h (omega arith))
              ∙ sym (ap (marked_rows marks start) e)
        ]

  -- ---- each once

  -- a row that is none of the n does not stand there
  pub outside : (n r q : ℕ) → (r ≤ q → q < r + n → ⊥) → how_often q (marked_rows marks r n) ≡ 0
  unfolding marked_rows how_often
  outside zero r q h = refl
  outside (suc n) r q h = go (is_marked marks r) (outside n (suc r) q (λ k l. h (omega arith) (omega arith)))
    where
      other : r ≢ q
      other e = h (omega arith) (omega arith)

      go : (t : Bool) → how_often q (marked_rows marks (suc r) n) ≡ 0
          → how_often q (cond t (r ∷ marked_rows marks (suc r) n) (marked_rows marks (suc r) n)) ≡ 0
      go true ih = rw (ne_eqb r q other) (omega arith)
      go false ih = ih

  -- one of them stands there once where it is marked
  pub among : (n r q : ℕ) → r ≤ q → q < r + n → how_often q (marked_rows marks r n) ≡ digit (is_marked marks q)
  unfolding marked_rows how_often
  among zero r q h l = absurd (omega arith)
  among (suc n) r q h l = go (is_marked marks r) refl (eqb r q) refl (among n (suc r) q)
    where
      go : (t : Bool) → is_marked marks r ≡ t → (u : Bool) → eqb r q ≡ u
          → (suc r ≤ q → q < suc r + n → how_often q (marked_rows marks (suc r) n) ≡ digit (is_marked marks q))
          → how_often q (cond t (r ∷ marked_rows marks (suc r) n) (marked_rows marks (suc r) n)) ≡ digit (is_marked marks q)
      go true e true f ih =
          let z : r ≡ q = eqb-true r q f in
          rw (f, outside n (suc r) q (λ k m. omega arith)) (ap digit (sym e ∙ ap (is_marked marks) z))
      go false e true f ih =
          let z : r ≡ q = eqb-true r q f in
          outside n (suc r) q (λ k m. omega arith) ∙ ap digit (sym e ∙ ap (is_marked marks) z)
      go true e false f ih =
          let z : r ≢ q = eqb-false r q f in
          rw (f, zero-add (how_often q (marked_rows marks (suc r) n))) (ih (omega arith) (omega arith))
      go false e false f ih =
          let z : r ≢ q = eqb-false r q f in
          ih (omega arith) (omega arith)
