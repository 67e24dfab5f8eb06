-- What a byte makes of a line that meets the rule meets it. Assumes nothing.
use Rattle.std.specs.Prelude.{◌≡◌, refl, Bool, true, false, ◌||◌, List, [], ◌∷◌, ◌++◌, ◌≢◌, ℕ, ◌+◌, ◌≤◌, eqb, ltb, length}
use Rattle.std.proofs.Common.{ap, ◌∙◌, ⊎_elim, arith, length-append, eqb-true, ltb-true, ltb-false, lt-ltb}
use Rattle.std.proofs.lemmas.Bool.{eqb-false}
use Rattle.refusals.specs.Refusal.{refusing}
use Rattle.vram.specs.Board.{Board}
use Rattle.vram.specs.Step.{given_of, rows_of}
use Rattle.vram.proofs.RuleLaws.{step_given}
use Rattle.std.specs.Prelude.{Option}
use Rattle.std.specs.Prelude.Option.{None, Some}
use Rattle.list.specs.Fields.{Field, Reads, Unreadable, field_of, size_of}
use Rattle.list.specs.Open.{open_by}
use Rattle.list.proofs.OpenLaws.{open_cases}
use Rattle.list.proofs.VerdictLaws.{number_range, accepted_whole}
use Rattle.list.specs.Waits.{waits}
use Rattle.list.proofs.WaitsLaws.{waits_nil, settled_fits}
use Rattle.pieces.specs.Line.{line, fresh, refused, Port, limit, number_on, draws, met, come, feed, piece}
use Rattle.pieces.proofs.LineLaws.{met_run, met_refused, come_waits, come_settled, feed_refused, feed_in, feed_over}
use Rattle.pieces.specs.Pieces.{before, possible}
use Rattle.pieces.specs.PackLaws.{possible_going, going_possible, stopped_possible}

-- ---- nothing held

open_possible : (at : ℕ) (left : Option ℕ) → at ≤ limit → before left at ≡ true → possible (line [] at 0 left) ≡ true
open_possible at left l e = going_possible (line [] at 0 left) refl (record { waiting = waits_nil; fits = omega arith; earlier = e })

pub fresh_possible : possible fresh ≡ true
fresh_possible = open_possible 0 None (omega arith) refl

refused_possible : (n at : ℕ) → n ≢ 0 → (eqb n 4 || refusing n) ≡ true → possible (refused n at) ≡ true
refused_possible n at h r = stopped_possible (refused n at) h (record { named = r; empty = refl; closed = refl })

-- ---- a field: the numbers that it can get, and the mask load that it leaves open

field_named : (f : Field) (b : Board) → number_on f b ≢ 0 → (eqb (number_on f b) 4 || refusing (number_on f b)) ≡ true
field_named f b n =
    ⊎_elim (λ e. ap (λ (k : ℕ). eqb k 4 || refusing k) e) (λ r. ap (λ (t : Bool). eqb (number_on f b) 4 || t) r ∙ yes (eqb (number_on f b) 4))
    (number_range (rows_of b) b.state.loaded f n)
  where
    yes : (t : Bool) → (t || true) ≡ true
    yes true = refl
    yes false = refl

before_later : (left : Option ℕ) (at n : ℕ) → before left at ≡ true → before left (at + n) ≡ true
before_later None at n e = refl
before_later (Some place) at n e = let l = ltb-true place at e in lt-ltb place (at + n) (omega arith)

field_before : (at : ℕ) (f : Field) (left : Option ℕ) → before left at ≡ true → before (open_by at f left) (at + size_of f) ≡ true
field_before at f left e =
    ⊎_elim (λ p. ap (λ (o : Option ℕ). before o (at + size_of f)) p.0 ∙ lt-ltb at (at + size_of f) (omega (arith, p.1)))
    (⊎_elim (λ p. ap (λ (o : Option ℕ). before o (at + size_of f)) p) (λ p. ap (λ (o : Option ℕ). before o (at + size_of f)) p ∙ before_later left at (size_of f) e))
    (open_cases at f left)

-- ---- one that ends within the limit

module _ (at : ℕ) (f : Field) (left : Option ℕ) (b : Board) (e : before left at ≡ true) where
  pub met_possible : (number_on f b ≡ 0 → at + size_of f ≤ limit) → possible (met at f left b).line ≡ true
  met_possible l = go (eqb (number_on f b) 0) refl
    where
      go : (t : Bool) → eqb (number_on f b) 0 ≡ t → possible (met at f left b).line ≡ true
      go true q =
          let z = eqb-true _ _ q in
          ap (λ (p : Port). possible p.line) (met_run at f left b z) ∙ open_possible (at + size_of f) (open_by at f left) (l z) (field_before at f left e)
      go false q =
          let n = eqb-false _ _ q in
          ap (λ (p : Port). possible p.line) (met_refused at f left b n) ∙ refused_possible (number_on f b) at n (field_named f b n)

-- ---- a byte

come_possible : (at : ℕ) (s : List ℕ) (left : Option ℕ) (b : Board) → before left at ≡ true → at + length s ≤ limit → possible (come at s left b).line ≡ true
come_possible at s left b e l = go (waits s) refl
  where
    go : (t : Bool) → waits s ≡ t → possible (come at s left b).line ≡ true
    go true q =
        ap (λ (p : Port). possible p.line) (come_waits at s left b q)
        ∙ going_possible (line s at 0 left) refl (record { waiting = q; fits = l; earlier = e })
    go false q =
        ap (λ (p : Port). possible p.line) (come_settled at s left b q)
        ∙ met_possible at (field_of s) left b e (λ z. omega (arith, (settled_fits s (accepted_whole s (rows_of b) b.state.loaded z)).0))

pub feed_possible : (p : Port) (x : ℕ) → possible p.line ≡ true → possible (feed p x).line ≡ true
feed_possible p x h = go (eqb p.line.number 0) refl (ltb (p.line.start + length p.line.held) limit) refl
  where
    go : (t : Bool) → eqb p.line.number 0 ≡ t → (u : Bool) → ltb (p.line.start + length p.line.held) limit ≡ u → possible (feed p x).line ≡ true
    go false q u r = ap (λ (o : Port). possible o.line) (feed_refused p x (eqb-false _ _ q)) ∙ h
    go true q true r =
        let z = eqb-true _ _ q in
        let l = ltb-true _ _ r in
        let k : length (p.line.held ++ x ∷ []) ≡ length p.line.held + 1 = simp length-append in
        ap (λ (o : Port). possible o.line) (feed_in p x z l)
        ∙ come_possible p.line.start (p.line.held ++ x ∷ []) p.line.left p.on (possible_going p.line z h).earlier (omega arith)
    go true q false r =
        ap (λ (o : Port). possible o.line) (feed_over p x (eqb-true _ _ q) (ltb-false _ _ r))
        ∙ refused_possible 4 p.line.start (λ z. omega arith) refl

pub piece_possible : (s : List ℕ) (p : Port) → possible p.line ≡ true → possible (piece p s).line ≡ true
piece_possible [] p h = h
piece_possible (x ∷ s) p h = piece_possible s (feed p x) (feed_possible p x h)

-- ---- and 1 to 3 say of the board what they said

draws_given : (f : Field) (b : Board) → given_of (draws f b) ≡ given_of b
unfolding draws
draws_given (Reads c n) b = step_given c b
draws_given Unreadable b = refl

met_given : (at : ℕ) (f : Field) (left : Option ℕ) (b : Board) → given_of (met at f left b).on ≡ given_of b
met_given at f left b = go (eqb (number_on f b) 0) refl
  where
    go : (t : Bool) → eqb (number_on f b) 0 ≡ t → given_of (met at f left b).on ≡ given_of b
    go true q = ap (λ (p : Port). given_of p.on) (met_run at f left b (eqb-true _ _ q)) ∙ draws_given f b
    go false q = ap (λ (p : Port). given_of p.on) (met_refused at f left b (eqb-false _ _ q))

come_given : (at : ℕ) (s : List ℕ) (left : Option ℕ) (b : Board) → given_of (come at s left b).on ≡ given_of b
come_given at s left b = go (waits s) refl
  where
    go : (t : Bool) → waits s ≡ t → given_of (come at s left b).on ≡ given_of b
    go true q = ap (λ (p : Port). given_of p.on) (come_waits at s left b q)
    go false q = ap (λ (p : Port). given_of p.on) (come_settled at s left b q) ∙ met_given at (field_of s) left b

feed_same : (p : Port) (x : ℕ) → given_of (feed p x).on ≡ given_of p.on
feed_same p x = go (eqb p.line.number 0) refl (ltb (p.line.start + length p.line.held) limit) refl
  where
    go : (t : Bool) → eqb p.line.number 0 ≡ t → (u : Bool) → ltb (p.line.start + length p.line.held) limit ≡ u → given_of (feed p x).on ≡ given_of p.on
    go false q u r = ap (λ (o : Port). given_of o.on) (feed_refused p x (eqb-false _ _ q))
    go true q true r =
        ap (λ (o : Port). given_of o.on) (feed_in p x (eqb-true _ _ q) (ltb-true _ _ r))
        ∙ come_given p.line.start (p.line.held ++ x ∷ []) p.line.left p.on
    go true q false r = ap (λ (o : Port). given_of o.on) (feed_over p x (eqb-true _ _ q) (ltb-false _ _ r))

pub feed_given : (p : Port) (x : ℕ) → given_of p.on ≡ 0 → given_of (feed p x).on ≡ 0
feed_given p x g = feed_same p x ∙ g

pub piece_given : (s : List ℕ) (p : Port) → given_of (piece p s).on ≡ given_of p.on
piece_given [] p = refl
piece_given (x ∷ s) p = piece_given s (feed p x) ∙ feed_same p x
