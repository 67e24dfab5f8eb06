-- What C's calls make of a fresh line meets the rule, so that no call is refused with 1 for it: whatever calls, in whatever order, on whatever
-- state and memory, also ones that are refused. Change request M-109. Assumes nothing.
use Rattle.std.specs.Prelude.{ℕ, ◌≡◌, refl, Bool, true, false, ◌&&◌}
use Rattle.std.proofs.Common.{sym, ap, ◌∙◌, List, [], ◌∷◌}
use mathlib.Core.List.{foldl}
use Rattle.vram.specs.Board.{board}
use Rattle.registers.specs.declared.Registers.{Registers}
use Rattle.registers.specs.State.{lawful, taken}
use Rattle.registers.specs.StateLaws.{handed_taken}
use Rattle.pieces.specs.declared.Pieces.{Pieces as Below}
use Rattle.pieces.specs.Line.{fresh}
use Rattle.pieces.specs.Pieces.{pack, unpack, sound}
use Rattle.pieces.specs.PackLaws.{Sound, sound_pack, made_sound}
use Rattle.pieces.proofs.KeepLaws.{fresh_possible}
use Rattle.pieces.proofs.Reach.{Take as BelowTake, End as BelowEnd, call_keeps}
use Rattle.pieces_c.specs.declared.Pieces.{Pieces}
use Rattle.pieces_c.specs.Line.{line_lawful, taken_line, handed_line}
use Rattle.pieces_c.specs.Calls.{Answered, take_call, end_call}
use Rattle.pieces_c.specs.CallLaws.{line_taken_handed, line_handed_lawful, take_handed, end_handed, take_excluded, end_excluded}

-- a call, with all that it is given and lent beside the line
pub data Call : Type 0 where
  Take : (state : Registers) (memory serial piece : List ℕ) → Call
  End : (state : Registers) (memory serial : List ℕ) → Call

-- what it leaves of the line
abbrev pub after : Pieces → Call → Pieces
after p (Take s m q piece) = (take_call s p m q piece).answer.pieces
after p (End s m q) = (end_call s p m q).answer.pieces

-- calls one after the other, from what `linkshoar_pieces_fresh` gives
abbrev pub reached : List Call → Pieces
reached cs = foldl after (handed_line (pack fresh)) cs

-- it was handed to C, and meets the rule
record Made (p : Pieces) : Type 0 where
  line : Below
  good : Sound line
  same : p ≡ handed_line line

keeps : (p : Pieces) → Made p → (c : Call) → Made (after p c)
keeps p k (Take s m q piece) = go (lawful s) refl
  where
    go : (t : Bool) → lawful s ≡ t → Made (take_call s p m q piece).answer.pieces
    go true h =
        record {
          line = _;
          good = call_keeps k.line k.good (BelowTake piece (board (taken s) m q));
          same =
              ap (λ (x : Pieces). (take_call s x m q piece).answer.pieces) k.same
              ∙ ap (λ (x : Registers). (take_call x (handed_line k.line) m q piece).answer.pieces) (sym (handed_taken s h))
              ∙ ap (λ (x : Answered). x.answer.pieces) (take_handed (taken s) k.line m q piece);
        }
    go false h =
        record {
          line = k.line;
          good = k.good;
          same = ap (λ (x : Answered). x.answer.pieces) (take_excluded s p m q (ap (λ (t : Bool). t && line_lawful p) h) piece) ∙ k.same;
        }
keeps p k (End s m q) = go (lawful s) refl
  where
    go : (t : Bool) → lawful s ≡ t → Made (end_call s p m q).answer.pieces
    go true h =
        record {
          line = _;
          good = call_keeps k.line k.good (BelowEnd (board (taken s) m q));
          same =
              ap (λ (x : Pieces). (end_call s x m q).answer.pieces) k.same
              ∙ ap (λ (x : Registers). (end_call x (handed_line k.line) m q).answer.pieces) (sym (handed_taken s h))
              ∙ ap (λ (x : Answered). x.answer.pieces) (end_handed (taken s) k.line m q);
        }
    go false h =
        record {
          line = k.line;
          good = k.good;
          same = ap (λ (x : Answered). x.answer.pieces) (end_excluded s p m q (ap (λ (t : Bool). t && line_lawful p) h)) ∙ k.same;
        }

all_keep : (cs : List Call) (p : Pieces) → Made p → Made (foldl after p cs)
all_keep [] p k = k
all_keep (c ∷ cs) p k = all_keep cs (after p c) (keeps p k c)

-- every line that C's calls can reach is one that both rules accept
pub reached_accepted : (cs : List Call) → (line_lawful (reached cs) ≡ true) × (sound (taken_line (reached cs)) ≡ true)
reached_accepted cs =
    let k = all_keep cs (handed_line (pack fresh)) (record { line = pack fresh; good = sound_pack fresh fresh_possible; same = refl }) in
    let l = k.line in (
      ap line_lawful k.same ∙ line_handed_lawful l,
      ap (λ (p : Pieces). sound (taken_line p)) k.same ∙ ap sound (line_taken_handed l ∙ sym k.good.whole) ∙ made_sound (unpack l) k.good.line,
    )
