-- The rule case by case: a field, a byte, and what is answered. Assumes nothing.
use Rattle.std.specs.Prelude.{◌≡◌, refl, Bool, true, false, eqb, List, [], ◌∷◌, ◌++◌, ◌≢◌, ℕ, ◌+◌, ◌≤◌, ◌<◌}
use Rattle.std.proofs.Common.{sym, ap, ◌∙◌, arith, eqb-true, eq-eqb, ne_eqb, lt-ltb, le-ltb}
use Rattle.std.proofs.Math.ListN.{length}
use Rattle.std.proofs.lemmas.Bool.{eqb-false}
use Rattle.vram.specs.Board.{Board}
use Rattle.list.specs.Meaning.{Bad}
use Rattle.std.specs.Prelude.{Option}
use Rattle.list.specs.Fields.{Field, field_of, size_of}
use Rattle.list.specs.Open.{open_by}
use Rattle.list.specs.Meaning.{bad, left_behind}
use Rattle.list.proofs.JudgeLaws.{bad_first, bad_later}
use Rattle.list.specs.Waits.{waits}
use Rattle.pieces.specs.Line.{Line, line, refused, Port, port, limit, number_on, draws, met, come, feed, piece, so_far, unfinished, at_last}

-- ---- a field

module _ (at : ℕ) (f : Field) (left : Option ℕ) (b : Board) where
  pub met_run : number_on f b ≡ 0 → met at f left b ≡ port (line [] (at + size_of f) 0 (open_by at f left)) (draws f b)
  unfolding met
  met_run z = rw (eq-eqb (number_on f b) 0 z)

  pub met_refused : number_on f b ≢ 0 → met at f left b ≡ port (refused (number_on f b) at) b
  unfolding met
  met_refused n = rw (ne_eqb (number_on f b) 0 n)

-- ---- a byte

module _ (at : ℕ) (s : List ℕ) (left : Option ℕ) (b : Board) where
  pub come_waits : waits s ≡ true → come at s left b ≡ port (line s at 0 left) b
  unfolding come
  come_waits h = rw h

  pub come_settled : waits s ≡ false → come at s left b ≡ met at (field_of s) left b
  unfolding come
  come_settled h = rw h

module _ (p : Port) (x : ℕ) where
  -- after a refusal nothing moves
  pub feed_refused : p.line.number ≢ 0 → feed p x ≡ p
  unfolding feed
  feed_refused n = rw (ne_eqb p.line.number 0 n)

  module _ (z : p.line.number ≡ 0) where
    pub feed_in : p.line.start + length p.line.held < limit → feed p x ≡ come p.line.start (p.line.held ++ x ∷ []) p.line.left p.on
    unfolding feed
    feed_in l = rw (eq-eqb p.line.number 0 z, lt-ltb (p.line.start + length p.line.held) limit l)

    pub feed_over : limit ≤ p.line.start + length p.line.held → feed p x ≡ port (refused 4 p.line.start) p.on
    unfolding feed
    feed_over l = rw (eq-eqb p.line.number 0 z, le-ltb (p.line.start + length p.line.held) limit l)

pub refused_stays : (s : List ℕ) (p : Port) → p.line.number ≢ 0 → piece p s ≡ p
refused_stays [] p n = refl
refused_stays (x ∷ s) p n = ap (λ (q : Port). piece q s) (feed_refused p x n) ∙ refused_stays s p n

-- ---- what is answered

module _ (l : Line) where
  pub so_far_none : l.number ≡ 0 → so_far l ≡ bad 0 0
  unfolding so_far
  so_far_none z = rw (eq-eqb l.number 0 z)

  pub so_far_kept : l.number ≢ 0 → so_far l ≡ bad l.number l.start
  unfolding so_far
  so_far_kept n = rw (ne_eqb l.number 0 n)

  pub so_far_zero : bad 0 0 ≡ so_far l → l.number ≡ 0
  so_far_zero e = go (eqb l.number 0) refl
    where
      go : (t : Bool) → eqb l.number 0 ≡ t → l.number ≡ 0
      go true q = eqb-true _ _ q
      go false q = sym (ap (λ (v : Bad). v.number) (e ∙ so_far_kept (eqb-false _ _ q)))

  pub last_bad : (v : Bad) → v ≡ so_far l → v.number ≢ 0 → v ≡ at_last l
  unfolding at_last
  last_bad v e n = e ∙ sym (bad_first (so_far l) _ (λ z. n (ap (λ (w : Bad). w.number) e ∙ z)))

  pub last_kept : l.number ≢ 0 → at_last l ≡ bad l.number l.start
  last_kept n = sym (last_bad (bad l.number l.start) (sym (so_far_kept n)) n)

  module _ (z : l.number ≡ 0) where
    pub last_cut : length l.held ≢ 0 → at_last l ≡ bad 4 l.start
    unfolding at_last unfinished
    last_cut n = bad_later (so_far l) _ (ap (λ (v : Bad). v.number) (so_far_none z)) ∙ rw (ne_eqb (length l.held) 0 n) (bad_first (bad 4 l.start) _ (λ e. omega arith))

    pub last_left : length l.held ≡ 0 → at_last l ≡ left_behind l.left
    unfolding at_last unfinished
    last_left e = bad_later (so_far l) _ (ap (λ (v : Bad). v.number) (so_far_none z)) ∙ rw (eq-eqb (length l.held) 0 e) (bad_later (bad 0 0) _ refl)
