-- A byte more, by what the code has. Assumes nothing.
use Rattle.std.specs.Prelude.{◌≡◌, true, false, List, [], ◌∷◌, ◌++◌, ◌≢◌, ℕ, ◌+◌, ◌≤◌, ◌<◌, length, take, set}
use Rattle.std.proofs.Common.{sym, ap, ap₂, ◌∙◌, arith, length-append}
use Rattle.vram.specs.Board.{Board}
use Rattle.std.specs.Prelude.{Option}
use Rattle.list.specs.Waits.{waits}
use Rattle.list.proofs.WaitsLaws.{waits_few}
use Rattle.pieces.specs.declared.Pieces.{Pieces}
use Rattle.pieces.specs.Line.{refused, Port, port, limit, come, feed}
use Rattle.pieces.proofs.LineLaws.{come_waits, come_settled, feed_refused, feed_in, feed_over}
use Rattle.pieces.specs.Pieces.{pad, pack, unpack}
use Rattle.pieces.specs.PackLaws.{take_pad, set_pad, possible_going, Sound}
use Rattle.pieces.specs.Turns.{standing, Meets, Held}

-- ---- the bytes of one field: n of thirteen

module _ (h : List ℕ) (n at : ℕ) (left : Option ℕ) (b : Board) (k : Held h n at) (number size : ℕ) (later : Option ℕ) (b' : Board)
    (m : Meets at (take n h) left b number size later b') where
  abbrev Came : Pieces → Type 0
  Came q = (q ≡ pack (come at (take n h) left b).line) × (b' ≡ (come at (take n h) left b).on)

  pub come_holds : waits (take n h) ≡ true → Came (record { held = h; count = n; start = at; number = 0; left = left })
  come_holds w =
      let e = come_waits at (take n h) left b w in (
        ap₂ (λ (s : List ℕ) (i : ℕ). record { held = s; count = i; start = at; number = 0; left = left }) (sym k.spare) (sym k.size)
            ∙ ap (λ (p : Port). pack p.line) (sym e),
        (m.waiting w).3 ∙ ap (λ (p : Port). p.on) (sym e),
      )

  pub come_moves : waits (take n h) ≡ false → (q : Pieces) → q ≡ pack (standing number (at + size) later) → Came q
  come_moves w q f =
      let e = come_settled at (take n h) left b w ∙ m.settled w in
      (f ∙ ap (λ (p : Port). pack p.line) (sym e), ap (λ (p : Port). p.on) (sym e))

-- ---- a byte more

module _ (p : Pieces) (k : Sound p) where
  size : length (take p.count p.held) ≡ p.count
  size = ap (λ (q : Pieces). q.count) k.whole

  module _ (z : p.number ≡ 0) where
    pub fed_few : p.count < 13
    fed_few = omega (arith, size, waits_few (take p.count p.held) (possible_going (unpack p) z k.line).waiting)

    module _ (x : ℕ) where
      more : set p.held p.count x ≡ pad 13 (take p.count p.held ++ x ∷ [])
      more =
          ap₂ (λ (t : List ℕ) (n : ℕ). set t n x) (sym (ap (λ (q : Pieces). q.held) k.whole)) (sym size)
          ∙ set_pad 13 (take p.count p.held) x (omega (arith, size, fed_few))

      more_size : length (take p.count p.held ++ x ∷ []) ≡ p.count + 1
      more_size = simp length-append (omega (arith, size))

      more_take : take (p.count + 1) (set p.held p.count x) ≡ take p.count p.held ++ x ∷ []
      more_take =
          ap (take (p.count + 1)) more
          ∙ ap (λ (n : ℕ). take n (pad 13 (take p.count p.held ++ x ∷ []))) (sym more_size)
          ∙ take_pad 13 (take p.count p.held ++ x ∷ []) (omega (arith, more_size, fed_few))

      pub fed_held : p.start + p.count < limit → Held (set p.held p.count x) (p.count + 1) p.start
      fed_held l =
          record {
            few = omega (arith, fed_few);
            spare = ap (pad 13) more_take ∙ sym more;
            size = ap length more_take ∙ more_size;
            fits = omega arith;
          }

  module _ (b : Board) (x : ℕ) where
    abbrev Fed : Pieces → Board → Type 0
    Fed q b' = (q ≡ pack (feed (port (unpack p) b) x).line) × (b' ≡ (feed (port (unpack p) b) x).on)

    pub fed_refused : p.number ≢ 0 → Fed p b
    fed_refused n =
        let e = feed_refused (port (unpack p) b) x n in
        (sym k.whole ∙ ap (λ (o : Port). pack o.line) (sym e), ap (λ (o : Port). o.on) (sym e))

    module _ (z : p.number ≡ 0) where
      pub fed_over : limit ≤ p.start + p.count → (q : Pieces) → q ≡ pack (refused 4 p.start) → Fed q b
      fed_over l q f =
          let e = feed_over (port (unpack p) b) x z (omega (arith, size)) in
          (f ∙ ap (λ (o : Port). pack o.line) (sym e), ap (λ (o : Port). o.on) (sym e))

      pub fed_come : p.start + p.count < limit → (q : Pieces) (b' : Board)
          → (let o = come p.start (take (p.count + 1) (set p.held p.count x)) p.left b in (q ≡ pack o.line) × (b' ≡ o.on)) → Fed q b'
      fed_come l q b' c =
          let e : come p.start (take (p.count + 1) (set p.held p.count x)) p.left b ≡ feed (port (unpack p) b) x
          = ap (λ (s : List ℕ). come p.start s p.left b) (more_take z x) ∙ sym (feed_in (port (unpack p) b) x z (omega (arith, size))) in
          (c.0 ∙ ap (λ (o : Port). pack o.line) e, c.1 ∙ ap (λ (o : Port). o.on) e)
