-- Demand 1 as change request M-109 reads it: from the field refused on, nothing changes. For every line, board and piece, also those that no
-- pieces could make. Assumes nothing.
use Rattle.std.specs.Prelude.{◌≡◌, refl, Bool, true, false, ◌≢◌, ℕ, eqb}
use Rattle.std.proofs.Common.{sym, ap, ◌∙◌, eqb-true, List, ◌++◌}
use mathlib.Core.List.{foldl-append}
use Rattle.std.proofs.lemmas.Bool.{eqb-false}
use Rattle.vram.specs.Board.{Board}
use Rattle.vram.specs.Step.{given_of}
use Rattle.list.specs.Meaning.{Bad}
use Rattle.list.specs.Meaning.{bad}
use Rattle.pieces.specs.declared.Pieces.{Pieces}
use Rattle.pieces.specs.Line.{Line, Port, port, feed, piece, so_far}
use Rattle.pieces.proofs.LineLaws.{so_far_none, so_far_kept, last_kept, refused_stays}
use Rattle.pieces.specs.Pieces.{unpack, possible}
use Rattle.pieces.specs.PackLaws.{sound_possible}
use Rattle.pieces.proofs.KeepLaws.{piece_possible, piece_given}
use Rattle.pieces.specs.Calls.{Outcome, gives, first_number, fed, take_call, end_call}
use Rattle.pieces.specs.CallLaws.{first_zero, take_first, end_first, take_made, end_made, take_is, end_is}

-- a line is refused where its piece's answer is
kept : (l : Line) → (so_far l).number ≢ 0 → l.number ≢ 0
kept l n z = n (ap (λ (v : Bad). v.number) (so_far_none l z))

module _ (p : Pieces) (s : List ℕ) (b : Board) (n : (take_call p s b).given.number ≢ 0) where
  abbrev o : Outcome
  o = take_call p s b

  abbrev l : Port
  l = piece (port (unpack p) b) s

  -- 1 to 3
  module _ (f : first_number p b ≢ 0) where
    same : o ≡ gives (bad (first_number p b) 0) p b
    same = sym (take_first p b (first_number p b) refl f s)

  -- the bytes have come
  module _ (f : first_number p b ≡ 0) where
    came : o ≡ fed l
    came = take_is p b f s

    refused_line : l.line.number ≢ 0
    refused_line = kept l.line (λ z. n (ap (λ (x : Outcome). x.given.number) came ∙ z))

    ok : possible l.line ≡ true
    ok = piece_possible s (port (unpack p) b) (sound_possible p (first_zero p b f).0)

    passes : given_of l.on ≡ 0
    passes = piece_given s (port (unpack p) b) ∙ (first_zero p b f).1

  -- the bytes after a refused field do nothing: whether there are any is not seen
  pub more_nothing : (t : List ℕ) → take_call p (s ++ t) b ≡ o
  more_nothing t = go (eqb (first_number p b) 0) refl
    where
      go : (u : Bool) → eqb (first_number p b) 0 ≡ u → take_call p (s ++ t) b ≡ o
      go true q =
          let f = eqb-true _ _ q in
          take_is p b f (s ++ t)
          ∙ ap fed (foldl-append feed (port (unpack p) b) s t ∙ refused_stays t l (refused_line f))
          ∙ sym (came f)
      go false q = let f = eqb-false _ _ q in sym (take_first p b (first_number p b) refl f (s ++ t)) ∙ sym (same f)

  -- a later piece gets the same answer and changes nothing
  pub later_nothing : (t : List ℕ) → take_call o.pieces t o.after ≡ o
  later_nothing t = go (eqb (first_number p b) 0) refl
    where
      go : (u : Bool) → eqb (first_number p b) 0 ≡ u → take_call o.pieces t o.after ≡ o
      go true q =
          let f = eqb-true _ _ q in
          ap (λ (x : Outcome). take_call x.pieces t x.after) (came f)
          ∙ take_made l.line (ok f) l.on (passes f) t
          ∙ ap fed (refused_stays t l (refused_line f))
          ∙ sym (came f)
      go false q =
          let f = eqb-false _ _ q in
          ap (λ (x : Outcome). take_call x.pieces t x.after) (same f) ∙ sym (take_first p b (first_number p b) refl f t) ∙ sym (same f)

  -- and so does the last call, which draws nothing
  pub last_same : (end_call o.pieces o.after).given ≡ o.given
  last_same = go (eqb (first_number p b) 0) refl
    where
      go : (u : Bool) → eqb (first_number p b) 0 ≡ u → (end_call o.pieces o.after).given ≡ o.given
      go true q =
          let f = eqb-true _ _ q in
          ap (λ (x : Outcome). (end_call x.pieces x.after).given) (came f)
          ∙ ap (λ (x : Outcome). x.given) (end_made l.line (ok f) l.on (passes f))
          ∙ last_kept l.line (refused_line f)
          ∙ sym (so_far_kept l.line (refused_line f))
          ∙ sym (ap (λ (x : Outcome). x.given) (came f))
      go false q =
          let f = eqb-false _ _ q in
          ap (λ (x : Outcome). (end_call x.pieces x.after).given) (same f)
          ∙ sym (ap (λ (x : Outcome). x.given) (end_first p b (first_number p b) refl f))
          ∙ sym (ap (λ (x : Outcome). x.given) (same f))

-- the last call draws nothing, whatever it answers
pub end_draws_nothing : (p : Pieces) (b : Board) → (end_call p b).after ≡ b
end_draws_nothing p b = go (eqb (first_number p b) 0) refl
  where
    go : (u : Bool) → eqb (first_number p b) 0 ≡ u → (end_call p b).after ≡ b
    go true q = ap (λ (x : Outcome). x.after) (end_is p b (eqb-true _ _ q))
    go false q = ap (λ (x : Outcome). x.after) (sym (end_first p b (first_number p b) refl (eqb-false _ _ q)))

-- 1 to 3, and 1 for what no pieces could make: nothing changes, no byte is taken, and the last call does not end the list
pub first_nothing : (p : Pieces) (b : Board) → first_number p b ≢ 0
    → ((s : List ℕ) → take_call p s b ≡ gives (bad (first_number p b) 0) p b) × (end_call p b ≡ gives (bad (first_number p b) 0) p b)
first_nothing p b n = (λ s. sym (take_first p b (first_number p b) refl n s), sym (end_first p b (first_number p b) refl n))
