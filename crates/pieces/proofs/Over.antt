-- A list that is too long, in any cutting: its first 4,294,967,295 bytes decide, and where no field of theirs is refused the byte after them
-- is. Change request M-109. Assumes nothing.
use Rattle.std.specs.Prelude.{◌≡◌, refl, Bool, true, false, ◌||◌, ◌≢◌, ℕ, suc, ◌≤◌, eqb, leb, length, get_or, take, drop}
use Rattle.std.proofs.Common.{sym, ap, ◌∙◌, true≢false, arith, length-take, eqb-true, leb-true, leb-false, List, ◌∷◌, ◌++◌}
use mathlib.Core.List.{flatten, foldl-append}
use Rattle.std.proofs.Math.Seq.{split_at}
use Rattle.std.proofs.lemmas.Bool.{eqb-false}
use Rattle.refusals.specs.Refusal.{refusing}
use Rattle.vram.specs.Board.{Board}
use Rattle.vram.specs.Step.{given_of, rows_of, run}
use Rattle.list.specs.Meaning.{Bad}
use Rattle.std.specs.Prelude.{Option}
use Rattle.std.specs.Prelude.Option.{None, Some}
use Rattle.list.specs.Fields.{fields}
use Rattle.list.specs.Open.{open_of}
use Rattle.list.specs.Meaning.{bad, verdict, cycles, left_behind, first_bad, judged, Outcome as ListOutcome}
use Rattle.list.proofs.RangeLaws.{verdict_most}
use Rattle.list.proofs.JudgeLaws.{left_none, left_at, bad_first, bad_later, bad_zero, judged_refused, judged_passed}
use Rattle.pieces.specs.Line.{fresh, refused, Port, port, limit, feed, piece, at_last}
use Rattle.pieces.proofs.LineLaws.{feed_over, refused_stays, last_kept, last_cut, last_left}
use Rattle.pieces.proofs.KeepLaws.{fresh_possible, piece_possible}
use Rattle.pieces.specs.Pieces.{possible}
use Rattle.pieces.specs.PackLaws.{possible_stopped}
use Rattle.pieces.specs.Meant.{passing}
use Rattle.pieces.proofs.MeantLaws.{meant_given}
use Rattle.pieces.proofs.OverLaws.{piece_far}
use Rattle.pieces.specs.Calls.{Outcome}
use Rattle.pieces.specs.Cutting.{cut_call}
use Rattle.pieces.proofs.CutLaws.{ends_given, ends_joined, new_meant, new_after}

left_number : (left : Option ℕ) (n : ℕ) → (left_behind left).number ≡ n → n ≢ 0 → n ≡ 20
left_number None n e h = absurd (h (sym e ∙ ap (λ (v : Bad). v.number) left_none))
left_number (Some place) n e h = sym e ∙ ap (λ (v : Bad). v.number) (left_at place)

module _ (a : List ℕ) (x : ℕ) (t : List ℕ) (full : length a ≡ limit) (b : Board) (g : given_of b ≡ 0) where
  abbrev p : Port
  p = piece (port fresh b) a

  abbrev v : Bad
  v = verdict (rows_of b) b.state.loaded 0 (fields a)

  so_far : at_last p.line ≡ judged (rows_of b) b.state.loaded None 0 (fields a)
  so_far = ap (λ (o : ListOutcome). o.given) (new_meant a (omega arith) b g) ∙ meant_given (fields a) 0 None b g

  -- where no field is refused, what is left behind is: 0 or 20
  passed : v.number ≡ 0 → (n at : ℕ) → at_last p.line ≡ bad n at → n ≢ 0 → n ≡ 20
  passed z n at e h =
      left_number (open_of a) n
      (sym (ap (λ (w : Bad). w.number) (so_far ∙ judged_passed (rows_of b) b.state.loaded None 0 (fields a) z)) ∙ ap (λ (w : Bad). w.number) e) h

  refused_is : v.number ≢ 0 → v ≡ at_last p.line
  refused_is n = sym (so_far ∙ judged_refused (rows_of b) b.state.loaded None 0 (fields a) n)

  ok : possible p.line ≡ true
  ok = piece_possible a (port fresh b) fresh_possible

  -- a field was refused before
  before : p.line.number ≢ 0 → at_last (piece p (x ∷ t)).line ≡ first_bad v (bad 4 limit)
  before n = go (eqb v.number 0) refl
    where
      go : (u : Bool) → eqb v.number 0 ≡ u → at_last (piece p (x ∷ t)).line ≡ first_bad v (bad 4 limit)
      go false q =
          let k = eqb-false _ _ q in
          ap (λ (o : Port). at_last o.line) (refused_stays (x ∷ t) p n) ∙ sym (refused_is k) ∙ sym (bad_first v (bad 4 limit) k)
      go true q =
          let e : p.line.number ≡ 20 = passed (eqb-true _ _ q) p.line.number p.line.start (last_kept p.line n) n in
          absurd (true≢false (sym (possible_stopped p.line n ok).named ∙ ap (λ (i : ℕ). eqb i 4 || refusing i) e))

  -- none was: the byte is one too many
  over : p.line.number ≡ 0 → piece p (x ∷ t) ≡ port (refused 4 p.line.start) p.on
  over z =
      ap (λ (o : Port). piece o t) (feed_over p x z (omega (arith, (piece_far a (port fresh b) fresh_possible z).1, full)))
      ∙ refused_stays t (port (refused 4 p.line.start) p.on) (λ y. omega arith)

  after : p.line.number ≡ 0 → at_last (piece p (x ∷ t)).line ≡ first_bad v (bad 4 limit)
  after z =
      ap (λ (o : Port). at_last o.line) (over z)
      ∙ last_kept (refused 4 p.line.start) (λ y. omega arith)
      ∙ go (eqb (length p.line.held) 0) refl (eqb v.number 0) refl
    where
      go : (h : Bool) → eqb (length p.line.held) 0 ≡ h → (u : Bool) → eqb v.number 0 ≡ u → bad 4 p.line.start ≡ first_bad v (bad 4 limit)
      go true r true q =
          let e : p.line.start ≡ limit
          = omega (arith, (piece_far a (port fresh b) fresh_possible z).1, full, eqb-true (length p.line.held) 0 r) in
          ap (bad 4) e ∙ sym (bad_later v (bad 4 limit) (eqb-true _ _ q))
      go true r false q =
          let k = eqb-false _ _ q in
          let e : v.number ≡ (left_behind p.line.left).number
          = ap (λ (w : Bad). w.number) (refused_is k ∙ last_left p.line z (eqb-true (length p.line.held) 0 r)) in
          absurd (omega (arith, left_number p.line.left v.number (sym e) k, verdict_most (rows_of b) b.state.loaded 0 (fields a)))
      go false r true q =
          absurd (omega (arith, passed (eqb-true _ _ q) 4 p.line.start (last_cut p.line z (eqb-false _ _ r)) (λ y. omega arith)))
      go false r false q =
          let k = eqb-false _ _ q in
          sym (last_cut p.line z (eqb-false _ _ r)) ∙ sym (refused_is k) ∙ sym (bad_first v (bad 4 limit) k)

  -- the field of the refused byte begins where the fields before it end: at the limit, or before it where bytes of it are held
  pub over_limit : (ss : List (List ℕ)) → flatten ss ≡ a ++ x ∷ t → (cut_call ss b).given ≡ first_bad v (bad 4 limit)
  over_limit ss cut =
      ap (λ (o : Outcome). o.given) (ends_joined ss fresh fresh_possible b g)
      ∙ ap (λ (s : List ℕ). at_last (piece (port fresh b) s).line) cut
      ∙ ap (λ (o : Port). at_last o.line) (foldl-append feed (port fresh b) a (x ∷ t))
      ∙ go (eqb p.line.number 0) refl
    where
      go : (u : Bool) → eqb p.line.number 0 ≡ u → at_last (piece p (x ∷ t)).line ≡ first_bad v (bad 4 limit)
      go true q = after (eqb-true _ _ q)
      go false q = before (eqb-false _ _ q)

  -- and what is drawn is what the fields of those bytes before the refused one draw
  pub over_drawn : (ss : List (List ℕ)) → flatten ss ≡ a ++ x ∷ t → (cut_call ss b).after ≡ run (cycles (passing (rows_of b) b.state.loaded (fields a))) b
  over_drawn ss cut =
      ap (λ (o : Outcome). o.after) (ends_joined ss fresh fresh_possible b g)
      ∙ ap (λ (s : List ℕ). (piece (port fresh b) s).on) cut
      ∙ ap (λ (o : Port). o.on) (foldl-append feed (port fresh b) a (x ∷ t))
      ∙ go (eqb p.line.number 0) refl
      ∙ new_after a (omega arith) b g
    where
      go : (u : Bool) → eqb p.line.number 0 ≡ u → (piece p (x ∷ t)).on ≡ p.on
      go true q = ap (λ (o : Port). o.on) (over (eqb-true _ _ q))
      go false q = ap (λ (o : Port). o.on) (refused_stays (x ∷ t) p (eqb-false _ _ q))

-- so a list that is accepted is not too long
pub accepted_fits : (ss : List (List ℕ)) (b : Board) → (cut_call ss b).given.number ≡ 0 → length (flatten ss) ≤ limit
accepted_fits ss b z = go (leb (length (flatten ss)) limit) refl (eqb (given_of b) 0) refl
  where
    go : (t : Bool) → leb (length (flatten ss)) limit ≡ t → (u : Bool) → eqb (given_of b) 0 ≡ u → length (flatten ss) ≤ limit
    go true q u r = leb-true _ _ q
    go false q true r =
        let s = flatten ss in
        let l = leb-false (length s) limit q in
        let n = ap (λ (v : Bad). v.number)
        (over_limit (take limit s) (get_or s limit 0) (drop (suc limit) s) (omega (arith, l, length-take limit s)) b (eqb-true _ _ r) ss (split_at s limit 0 l)) in
        absurd (omega (arith, (bad_zero (verdict (rows_of b) b.state.loaded 0 (fields (take limit s))) (bad 4 limit) (sym n ∙ z)).1))
    go false q false r =
        let n = eqb-false _ _ r in
        absurd (n (sym (ap (λ (o : Outcome). o.given.number) (ends_given ss fresh fresh_possible b n)) ∙ z))
