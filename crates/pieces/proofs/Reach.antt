-- What calls make of a fresh line meets the rule, so that no call is refused with 1 for it: whatever calls, in whatever order, on whatever boards. Change request M-109.
-- Assumes nothing.
use Rattle.std.specs.Prelude.{◌≡◌, refl, Bool, true, false, ℕ, eqb}
use Rattle.std.proofs.Common.{sym, ap, ◌∙◌, eqb-true, List, [], ◌∷◌}
use mathlib.Core.List.{foldl}
use Rattle.std.proofs.lemmas.Bool.{eqb-false}
use Rattle.vram.specs.Board.{Board}
use Rattle.vram.specs.Step.{given_of}
use Rattle.pieces.specs.declared.Pieces.{Pieces}
use Rattle.pieces.specs.Line.{fresh, port}
use Rattle.pieces.specs.Pieces.{pack, unpack, sound}
use Rattle.pieces.specs.PackLaws.{Sound, sound_pack, made_sound}
use Rattle.pieces.proofs.KeepLaws.{fresh_possible, piece_possible}
use Rattle.pieces.specs.Calls.{first_number, take_call, end_call}
use Rattle.pieces.specs.CallLaws.{first_given, take_first, end_first, take_is, end_is}

-- a call, with the piece and the board that it is given
pub data Call : Type 0 where
  Take : List ℕ → Board → Call
  End : Board → Call

-- what it leaves of the line
abbrev pub after : Pieces → Call → Pieces
after p (Take s b) = (take_call p s b).pieces
after p (End b) = (end_call p b).pieces

-- calls one after the other, from a fresh line
abbrev pub reached : List Call → Pieces
reached cs = foldl after (pack fresh) cs

-- each makes of a line that meets the rule one that meets it
pub call_keeps : (p : Pieces) → Sound p → (c : Call) → Sound (after p c)
call_keeps p k (Take s b) = go (eqb (first_number p b) 0) refl
  where
    go : (t : Bool) → eqb (first_number p b) 0 ≡ t → Sound (take_call p s b).pieces
    go true q = rw (take_is p b (eqb-true _ _ q) s) (sound_pack _ (piece_possible s (port (unpack p) b) k.line))
    go false q = rw (← take_first p b (first_number p b) refl (eqb-false _ _ q) s) k
call_keeps p k (End b) = go (eqb (first_number p b) 0) refl
  where
    go : (t : Bool) → eqb (first_number p b) 0 ≡ t → Sound (end_call p b).pieces
    go true q = rw (end_is p b (eqb-true _ _ q)) (sound_pack fresh fresh_possible)
    go false q = rw (← end_first p b (first_number p b) refl (eqb-false _ _ q)) k

all_keep : (cs : List Call) (p : Pieces) → Sound p → Sound (foldl after p cs)
all_keep [] p k = k
all_keep (c ∷ cs) p k = all_keep cs (after p c) (call_keeps p k c)

-- every line that calls can reach is one that the rule accepts
pub reached_sound : (cs : List Call) → sound (reached cs) ≡ true
reached_sound cs = let k = all_keep cs (pack fresh) (sound_pack fresh fresh_possible) in ap sound (sym k.whole) ∙ made_sound (unpack (reached cs)) k.line

-- so an honest caller is refused, before any byte, for its state and lengths alone
pub reached_first : (cs : List Call) (b : Board) → first_number (reached cs) b ≡ given_of b
reached_first cs b = first_given (reached cs) b (reached_sound cs)
