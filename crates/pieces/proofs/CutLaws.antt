-- Pieces come to what the bytes come to that they join to. Assumes nothing.
use Rattle.std.specs.Prelude.{◌≡◌, refl, Bool, true, false, ◌≢◌, ℕ, ◌≤◌, eqb, length}
use Rattle.std.proofs.Common.{sym, ap, ap₂, ◌∙◌, arith, eqb-true, List, [], ◌∷◌}
use mathlib.Core.List.{flatten, foldl-append, map}
use Rattle.std.proofs.lemmas.Bool.{eqb-false}
use Rattle.vram.specs.Board.{Board}
use Rattle.vram.specs.Step.{given_of, rows_of, run}
use Rattle.list.specs.Meaning.{Bad}
use Rattle.std.specs.Prelude.Option.{None}
use Rattle.list.specs.Fields.{fields}
use Rattle.list.specs.Meaning.{bad, cycles, verdict_of, Outcome as ListOutcome}
use Rattle.list.proofs.CallLaws.{verdict_judged}
use Rattle.list.proofs.WaitsLaws.{waits_nil}
use Rattle.pieces.specs.declared.Pieces.{Pieces}
use Rattle.pieces.specs.Line.{Line, fresh, Port, port, limit, feed, piece, at_last}
use Rattle.pieces.proofs.LineLaws.{so_far_none, refused_stays, last_kept}
use Rattle.pieces.specs.Meant.{meant, passing, ended}
use Rattle.pieces.proofs.MeantLaws.{bytes_meant, meant_given, meant_after}
use Rattle.pieces.specs.Pieces.{pack, possible}
use Rattle.pieces.proofs.KeepLaws.{piece_possible, piece_given}
use Rattle.pieces.specs.Calls.{Outcome, gives, take_call, end_call}
use Rattle.pieces.specs.CallLaws.{take_given, end_given, take_made, end_made}
use Rattle.pieces.specs.Cutting.{answers, ends}

-- ---- piece by piece

pub ends_none : (p : Pieces) (b : Board) → ends [] p b ≡ end_call p b
unfolding ends
ends_none p b = refl

pub ends_next : (s : List ℕ) (ss : List (List ℕ)) (p : Pieces) (b : Board)
    → (let o = take_call p s b in ends (s ∷ ss) p b ≡ ends ss o.pieces o.after)
unfolding ends
ends_next s ss p b = refl

-- ---- the board is refused by 1 to 3: so is every call, and nothing changes

pub ends_given : (ss : List (List ℕ)) (l : Line) → possible l ≡ true → (b : Board) → given_of b ≢ 0 → ends ss (pack l) b ≡ gives (bad (given_of b) 0) (pack l) b
unfolding ends
ends_given [] l h b n = end_given l h b n
ends_given (s ∷ ss) l h b n = ap (λ (o : Outcome). ends ss o.pieces o.after) (take_given l h b n s) ∙ ends_given ss l h b n

-- ---- 1 to 3 pass: pieces are the bytes that they join to

pub ends_joined : (ss : List (List ℕ)) (l : Line) → possible l ≡ true → (b : Board) → given_of b ≡ 0
    → (let o = piece (port l b) (flatten ss) in ends ss (pack l) b ≡ gives (at_last o.line) (pack fresh) o.on)
unfolding ends flatten
ends_joined [] l h b g = end_made l h b g
ends_joined (s ∷ ss) l h b g =
    let p = piece (port l b) s in
    ap (λ (o : Outcome). ends ss o.pieces o.after) (take_made l h b g s)
    ∙ ends_joined ss p.line (piece_possible s (port l b) h) p.on (piece_given s (port l b) ∙ g)
    ∙ ap (λ (o : Port). gives (at_last o.line) (pack fresh) o.on) (sym (foldl-append feed (port l b) s (flatten ss)))

-- where the list is not refused at its end, no piece was
pub answers_zero : (ss : List (List ℕ)) (l : Line) → possible l ≡ true → (b : Board) → given_of b ≡ 0 → (piece (port l b) (flatten ss)).line.number ≡ 0
    → answers ss (pack l) b ≡ map (λ (s : List ℕ). bad 0 0) ss
unfolding answers flatten map
answers_zero [] l h b g z = refl
answers_zero (s ∷ ss) l h b g z =
    let p = piece (port l b) s in
    let e = foldl-append feed (port l b) s (flatten ss) in
    let z' : (piece p (flatten ss)).line.number ≡ 0 = sym (ap (λ (o : Port). o.line.number) e) ∙ z in
    ap (λ (o : Outcome). o.given ∷ answers ss o.pieces o.after) (take_made l h b g s)
    ∙ ap₂ (λ (v : Bad) (vs : List Bad). v ∷ vs) (so_far_none p.line (none (eqb p.line.number 0) refl z'))
    (answers_zero ss p.line (piece_possible s (port l b) h) p.on (piece_given s (port l b) ∙ g) z')
  where
    none : (t : Bool) → eqb (piece (port l b) s).line.number 0 ≡ t → (piece (piece (port l b) s) (flatten ss)).line.number ≡ 0
        → (piece (port l b) s).line.number ≡ 0
    none true q k = eqb-true _ _ q
    none false q k = sym (ap (λ (o : Port). o.line.number) (refused_stays (flatten ss) (piece (port l b) s) (eqb-false _ _ q))) ∙ k

-- ---- a new list

module _ (list : List ℕ) (fits : length list ≤ limit) (b : Board) (g : given_of b ≡ 0) where
  pub new_meant : ended (piece (port fresh b) list) ≡ meant 0 (fields list) None b
  new_meant = bytes_meant list [] 0 None b waits_nil (omega arith)

  pub new_given : at_last (piece (port fresh b) list).line ≡ verdict_of list b
  new_given = ap (λ (o : ListOutcome). o.given) new_meant ∙ meant_given (fields list) 0 None b g ∙ sym (verdict_judged list b g)

  pub new_after : (piece (port fresh b) list).on ≡ run (cycles (passing (rows_of b) b.state.loaded (fields list))) b
  new_after = ap (λ (o : ListOutcome). o.after) new_meant ∙ meant_after (fields list) 0 None b g

  -- accepted: no piece refuses
  pub new_number : (verdict_of list b).number ≡ 0 → (piece (port fresh b) list).line.number ≡ 0
  new_number z = go (eqb (piece (port fresh b) list).line.number 0) refl
    where
      go : (t : Bool) → eqb (piece (port fresh b) list).line.number 0 ≡ t → (piece (port fresh b) list).line.number ≡ 0
      go true q = eqb-true _ _ q
      go false q =
          let n = eqb-false _ _ q in
          absurd (n (sym (ap (λ (v : Bad). v.number) (last_kept (piece (port fresh b) list).line n)) ∙ ap (λ (v : Bad). v.number) new_given ∙ z))
