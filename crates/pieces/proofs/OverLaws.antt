-- How far a list has come, unless it was refused. Assumes nothing.
use Rattle.std.specs.Prelude.{◌≡◌, refl, Bool, true, false, List, [], ◌∷◌, ◌++◌, ℕ, ◌+◌, eqb, ltb, length}
use Rattle.std.proofs.Common.{sym, ap, ◌∙◌, arith, length-append, eqb-true, ltb-true, ltb-false}
use Rattle.std.proofs.lemmas.Bool.{eqb-false}
use Rattle.vram.specs.Board.{Board}
use Rattle.vram.specs.Step.{rows_of}
use Rattle.std.specs.Prelude.{Option}
use Rattle.list.specs.Fields.{field_of}
use Rattle.list.proofs.VerdictLaws.{size_whole, accepted_whole}
use Rattle.list.specs.Waits.{waits}
use Rattle.list.proofs.WaitsLaws.{settled_length}
use Rattle.pieces.specs.Line.{Port, limit, number_on, come, feed, piece}
use Rattle.pieces.proofs.LineLaws.{met_run, met_refused, come_waits, come_settled, feed_refused, feed_in, feed_over}
use Rattle.pieces.specs.Pieces.{possible}
use Rattle.pieces.specs.PackLaws.{possible_going}
use Rattle.pieces.proofs.KeepLaws.{feed_possible}

-- the bytes of all fields so far
abbrev pub far : Port → ℕ
far p = p.line.start + length p.line.held

-- a byte makes it one more: h are waiting bytes at an offset
module _ (at : ℕ) (h : List ℕ) (x : ℕ) (left : Option ℕ) (b : Board) (k : waits h ≡ true) where
  abbrev t : List ℕ
  t = h ++ x ∷ []

  longer : length t ≡ length h + 1
  longer = simp length-append

  come_far : (come at t left b).line.number ≡ 0 → far (come at t left b) ≡ at + length h + 1
  come_far = go (waits t) refl (eqb (number_on (field_of t) b) 0) refl
    where
      go : (u : Bool) → waits t ≡ u → (v : Bool) → eqb (number_on (field_of t) b) 0 ≡ v → (come at t left b).line.number ≡ 0
          → far (come at t left b) ≡ at + length h + 1
      go true q v r z = ap far (come_waits at t left b q) ∙ omega (arith, longer)
      go false q true r z =
          let n : number_on (field_of t) b ≡ 0 = eqb-true _ _ r in
          let w = accepted_whole t (rows_of b) b.state.loaded n in
          ap far (come_settled at t left b q ∙ met_run at (field_of t) left b n) ∙ omega (arith, size_whole t w, settled_length h x k w, longer)
      go false q false r z =
          let n = eqb-false _ _ r in
          absurd (n (sym (ap (λ (p : Port). p.line.number) (come_settled at t left b q ∙ met_refused at (field_of t) left b n)) ∙ z))

feed_far : (p : Port) (x : ℕ) → possible p.line ≡ true → (feed p x).line.number ≡ 0 → (p.line.number ≡ 0) × (far (feed p x) ≡ far p + 1)
feed_far p x h z = go (eqb p.line.number 0) refl (ltb (far p) limit) refl
  where
    go : (t : Bool) → eqb p.line.number 0 ≡ t → (u : Bool) → ltb (far p) limit ≡ u → (p.line.number ≡ 0) × (far (feed p x) ≡ far p + 1)
    go false q u r = let n = eqb-false _ _ q in absurd (n (sym (ap (λ (o : Port). o.line.number) (feed_refused p x n)) ∙ z))
    go true q true r =
        let n = eqb-true _ _ q in
        let e = feed_in p x n (ltb-true _ _ r) in (
          n,
          ap far e
              ∙ come_far p.line.start p.line.held x p.line.left p.on (possible_going p.line n h).waiting
              (sym (ap (λ (o : Port). o.line.number) e) ∙ z),
        )
    go true q false r =
        let e = ap (λ (o : Port). o.line.number) (feed_over p x (eqb-true _ _ q) (ltb-false _ _ r)) in
        absurd (omega (arith, e, z))

pub piece_far : (s : List ℕ) (p : Port) → possible p.line ≡ true → (piece p s).line.number ≡ 0
    → (p.line.number ≡ 0) × (far (piece p s) ≡ far p + length s)
piece_far [] p h z = (z, omega arith)
piece_far (x ∷ s) p h z =
    let f = piece_far s (feed p x) (feed_possible p x h) z in
    let g = feed_far p x h f.0 in
    (g.0, omega (arith, f.1, g.1))
