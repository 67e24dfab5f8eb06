-- Bytes that stand together: a whole field at their head goes at once, and so does one that no bytes can make. Assumes nothing.
use Rattle.std.specs.Prelude.{◌≡◌, refl, Bool, true, false, List, [], ◌∷◌, ◌++◌, ℕ, suc, ◌+◌, ◌-◌, ◌≤◌, ltb, length, drop}
use Rattle.std.proofs.Common.{sym, ap, ◌∙◌, true≢false, append_assoc, append-nil, arith, length-append, ltb-true, ltb-false}
use Rattle.vram.specs.Board.{Board}
use Rattle.vram.specs.Step.{rows_of}
use Rattle.std.specs.Prelude.{Option}
use Rattle.list.specs.Tags.{len_of}
use Rattle.list.specs.Fields.{Field, tag, whole, field_of}
use Rattle.list.proofs.FieldLaws.{tag_append}
use Rattle.list.proofs.VerdictLaws.{number_not}
use Rattle.list.specs.Waits.{waits}
use Rattle.list.proofs.WaitsLaws.{waits_nil, waits_not, settled_long, settled_whole, settled_append, settled_length, waits_less}
use Rattle.pieces.specs.Line.{line, refused, Port, port, limit, number_on, met, come, piece}
use Rattle.pieces.proofs.LineLaws.{met_refused, come_waits, come_settled, feed_in, feed_over, refused_stays}

module _ (at : ℕ) (left : Option ℕ) (b : Board) where
  -- ---- a whole field: after some waiting bytes of it, the rest

  module _ (f : Field) (n : ℕ) (l : at + n ≤ limit) where
    record Makes (t : List ℕ) : Type 0 where
      good : whole t ≡ true
      field : field_of t ≡ f
      size : 3 + len_of (tag t) ≡ n

    goes_on_makes : (x : ℕ) (s h : List ℕ) → waits h ≡ true → Makes (h ++ x ∷ s)
        → ((h : List ℕ) → waits h ≡ true → Makes (h ++ s) → piece (port (line h at 0 left) b) s ≡ piece (met at f left b) (drop (n - length h) s))
        → (u : Bool) → waits (h ++ x ∷ []) ≡ u → piece (come at (h ++ x ∷ []) left b) s ≡ piece (met at f left b) (drop (n - (length h + 1)) s)
    goes_on_makes x s h k m ih true e =
        let o : length (h ++ x ∷ []) ≡ length h + 1 = simp length-append in
        ap (λ (p : Port). piece p s) (come_waits at (h ++ x ∷ []) left b e)
        ∙ ih (h ++ x ∷ []) e (rw append_assoc m)
        ∙ ap (λ (i : ℕ). piece (met at f left b) (drop (n - i) s)) o
    goes_on_makes x s h k m ih false e =
        let t = h ++ x ∷ [] in
        let m' : Makes (t ++ s) = rw append_assoc m in
        let w : whole t ≡ true = sym (settled_whole t s e) ∙ m'.good in
        let o : length t ≡ length h + 1 = simp length-append in
        let g = settled_length h x k w in
        let q = tag_append t s (omega (arith, settled_long t e)) in
        let z : n - (length h + 1) ≡ 0 = omega (arith, g, ap (λ (i : ℕ). 3 + len_of i) q, m'.size) in
        ap (λ (p : Port). piece p s) (come_settled at t left b e ∙ ap (λ (y : Field). met at y left b) (sym (settled_append t s e) ∙ m'.field))
        ∙ ap (λ (i : ℕ). piece (met at f left b) (drop i s)) (sym z)

    rest_of : (s h : List ℕ) → waits h ≡ true → Makes (h ++ s) → piece (port (line h at 0 left) b) s ≡ piece (met at f left b) (drop (n - length h) s)
    rest_of [] h k m = absurd (true≢false (sym m.good ∙ ap whole (append-nil h) ∙ waits_not h k))
    rest_of (x ∷ s) h k m =
        let j = waits_less h (x ∷ s) k in
        let i : n - length h ≡ suc (n - (length h + 1)) = omega (arith, j, m.size) in
        ap (λ (p : Port). piece p s) (feed_in (port (line h at 0 left) b) x refl (omega (arith, j, m.size)))
        ∙ goes_on_makes x s h k m (rest_of s) (waits (h ++ x ∷ [])) refl
        ∙ ap (λ (y : ℕ). piece (met at f left b) (drop y (x ∷ s))) (sym i)

  pub whole_turn : (s : List ℕ) → whole s ≡ true → at + (3 + len_of (tag s)) ≤ limit
      → piece (port (line [] at 0 left) b) s ≡ piece (met at (field_of s) left b) (drop (3 + len_of (tag s)) s)
  whole_turn s w l =
      let z : 3 + len_of (tag s) - 0 ≡ 3 + len_of (tag s) = omega arith in
      rest_of (field_of s) (3 + len_of (tag s)) l s [] waits_nil (record { good = w; field = refl; size = refl })
      ∙ ap (λ (i : ℕ). piece (met at (field_of s) left b) (drop i s)) z

  -- ---- bytes that can be no field are refused at its offset, whatever the limit

  pub met_wrong : (t : List ℕ) → whole t ≡ false → met at (field_of t) left b ≡ port (refused 4 at) b
  met_wrong t w =
      let n : number_on (field_of t) b ≡ 4 = number_not t w (rows_of b) b.state.loaded in
      met_refused at (field_of t) left b (λ z. omega arith) ∙ ap (λ (k : ℕ). port (refused k at) b) n

  abbrev stays : (s : List ℕ) → piece (port (refused 4 at) b) s ≡ port (refused 4 at) b
  stays s = refused_stays s (port (refused 4 at) b) (λ z. omega arith)

  fails : (x : ℕ) (s h : List ℕ) → waits (h ++ x ∷ s) ≡ false → whole (h ++ x ∷ s) ≡ false
      → ((h : List ℕ) → waits h ≡ true → waits (h ++ s) ≡ false → whole (h ++ s) ≡ false → piece (port (line h at 0 left) b) s ≡ port (refused 4 at) b)
      → (t : Bool) → ltb (at + length h) limit ≡ t → (u : Bool) → waits (h ++ x ∷ []) ≡ u → piece (port (line h at 0 left) b) (x ∷ s) ≡ port (refused 4 at) b
  fails x s h k w ih false e u q = ap (λ (p : Port). piece p s) (feed_over (port (line h at 0 left) b) x refl (ltb-false _ _ e)) ∙ stays s
  fails x s h k w ih true e true q =
      ap (λ (p : Port). piece p s) (feed_in (port (line h at 0 left) b) x refl (ltb-true _ _ e) ∙ come_waits at (h ++ x ∷ []) left b q)
      ∙ ih (h ++ x ∷ []) q (rw append_assoc k) (rw append_assoc w)
  fails x s h k w ih true e false q =
      let y : whole (h ++ x ∷ []) ≡ false = sym (settled_whole (h ++ x ∷ []) s q) ∙ rw append_assoc w in
      ap (λ (p : Port). piece p s)
      (feed_in (port (line h at 0 left) b) x refl (ltb-true _ _ e) ∙ come_settled at (h ++ x ∷ []) left b q ∙ met_wrong (h ++ x ∷ []) y)
      ∙ stays s

  rest_wrong : (s h : List ℕ) → waits h ≡ true → waits (h ++ s) ≡ false → whole (h ++ s) ≡ false → piece (port (line h at 0 left) b) s ≡ port (refused 4 at) b
  rest_wrong [] h k n w = absurd (true≢false (sym k ∙ ap waits (sym (append-nil h)) ∙ n))
  rest_wrong (x ∷ s) h k n w = fails x s h n w (rest_wrong s) (ltb (at + length h) limit) refl (waits (h ++ x ∷ [])) refl

  pub wrong_turn : (s : List ℕ) → waits s ≡ false → whole s ≡ false → piece (port (line [] at 0 left) b) s ≡ port (refused 4 at) b
  wrong_turn s n w = rest_wrong s [] waits_nil n w
