-- Every cutting, for C: whatever the bytes of the state are, a list in pieces is answered as `linkshoar_list_run` answers it whole, and an
-- accepted one leaves the same. Change request M-109. Assumes nothing.
use Rattle.std.specs.Prelude.{ℕ, ◌≤◌, ◌≡◌, refl, Bool, true, false, ◌&&◌, length}
use Rattle.std.proofs.Common.{sym, ap, ◌∙◌, arith, List, [], ◌∷◌}
use mathlib.Core.List.{flatten}
use Rattle.vram.specs.declared.Vram.{Vram}
use Rattle.vram.specs.Board.{board, effect}
use Rattle.list.specs.Meaning.{Bad}
use Rattle.list.specs.Meaning.{bad, verdict_of, run_call}
use Rattle.list.proofs.CallLaws.{call_given}
use Rattle.registers.specs.declared.Registers.{Registers}
use Rattle.registers.specs.State.{lawful, taken, handed}
use Rattle.registers.specs.StateLaws.{handed_taken}
use Rattle.registers.specs.Lists.{Listed, list_answer, list_call}
use Rattle.registers.specs.ListLaws.{list_excluded, list_handed, list_plain}
use Rattle.pieces.specs.declared.Pieces.{Pieces as Below}
use Rattle.pieces.specs.Line.{fresh, limit}
use Rattle.pieces.specs.Pieces.{pack}
use Rattle.pieces.specs.Calls.{take_call as below_take}
use Rattle.pieces.specs.Cutting.{ends as below_ends, cut_call as below_cut}
use Rattle.pieces.proofs.CutLaws.{ends_none as below_none, ends_next as below_next}
use Rattle.pieces.proofs.Cuts.{cut_verdict, cut_accepted}
use Rattle.pieces.proofs.Over.{accepted_fits}
use Rattle.pieces_c.specs.declared.Pieces.{Pieces}
use Rattle.pieces_c.specs.Line.{line_lawful, handed_line, excluded_taken}
use Rattle.pieces_c.specs.Calls.{Answered, answered, answer_of}
use Rattle.pieces_c.specs.CallLaws.{take_handed, end_handed, take_excluded, end_excluded}
use Rattle.pieces_c.specs.Cutting.{ends, cut_call}

-- ---- on what was handed to C the calls are those below: so all that `pieces` says of a cutting holds of one in C

pub ends_handed : (ss : List (List ℕ)) (v : Vram) (p : Below) (m q : List ℕ) → ends ss (handed v) (handed_line p) m q ≡ answer_of (below_ends ss p (board v m q))
unfolding ends
ends_handed [] v p m q = end_handed v p m q ∙ ap answer_of (sym (below_none p (board v m q)))
ends_handed (piece ∷ ss) v p m q =
    let o = below_take p piece (board v m q) in
    ap (λ (x : Answered). ends ss x.answer.state x.answer.pieces x.memory x.serial) (take_handed v p m q piece)
    ∙ ends_handed ss o.after.state o.pieces o.after.memory o.after.serial
    ∙ ap answer_of (sym (below_next piece ss p (board v m q)))

-- and where no `Vram` can be so, each gives 1
ends_excluded : (ss : List (List ℕ)) (s : Registers) (p : Pieces) (m q : List ℕ) → (lawful s && line_lawful p) ≡ false → ends ss s p m q ≡ answered (excluded_taken s p) m q
unfolding ends
ends_excluded [] s p m q h = end_excluded s p m q h
ends_excluded (piece ∷ ss) s p m q h =
    ap (λ (x : Answered). ends ss x.answer.state x.answer.pieces x.memory x.serial) (take_excluded s p m q h piece) ∙ ends_excluded ss s p m q h

module _ (list : List ℕ) (fits : length list ≤ limit) (ss : List (List ℕ)) (cut : flatten ss ≡ list) (s : Registers) (m q : List ℕ) where
  abbrev whole : Listed
  whole = list_call s m q list

  -- ---- the state is one that a `Vram` can be

  module _ (h : lawful s ≡ true) where
    abbrev v : Vram
    v = taken s

    below : cut_call ss s m q ≡ answer_of (below_cut ss (board v m q))
    below = ap (λ (x : Registers). cut_call ss x m q) (sym (handed_taken s h)) ∙ ends_handed ss v (pack fresh) m q

    whole_below : whole ≡ list_answer (run_call list (board v m q))
    whole_below = ap (λ (x : Registers). list_call x m q list) (sym (handed_taken s h)) ∙ list_handed effect v m q list

  -- number and place of the last call are the whole-list call's
  pub same_verdict : bad (cut_call ss s m q).answer.number (cut_call ss s m q).answer.place ≡ bad whole.answer.number whole.answer.place
  same_verdict = go (lawful s) refl
    where
      go : (t : Bool) → lawful s ≡ t → bad (cut_call ss s m q).answer.number (cut_call ss s m q).answer.place ≡ bad whole.answer.number whole.answer.place
      go true h =
          ap (λ (x : Answered). bad x.answer.number x.answer.place) (below h)
          ∙ cut_verdict list fits ss cut (board (v h) m q)
          ∙ sym (call_given list (board (v h) m q))
          ∙ sym (ap (λ (x : Listed). bad x.answer.number x.answer.place) (whole_below h))
      go false h =
          ap (λ (x : Answered). bad x.answer.number x.answer.place) (ends_excluded ss s (handed_line (pack fresh)) m q (ap (λ (t : Bool). t && line_lawful (handed_line (pack fresh))) h))
          ∙ ap (λ (x : Listed). bad x.answer.number x.answer.place) (list_excluded effect s h m q list)

  -- an accepted list leaves the same state, memory and serial register, and the next piece starts a new list
  pub same_accepted : whole.answer.number ≡ 0
      → cut_call ss s m q
      ≡ answered (record { state = whole.answer.state; pieces = handed_line (pack fresh); number = 0; place = 0 }) whole.memory whole.serial
  same_accepted z = go (lawful s) refl
    where
      go : (t : Bool) → lawful s ≡ t → cut_call ss s m q
          ≡ answered (record { state = whole.answer.state; pieces = handed_line (pack fresh); number = 0; place = 0 }) whole.memory whole.serial
      go true h =
          let n : (verdict_of list (board (v h) m q)).number ≡ 0
          = sym (ap (λ (x : Bad). x.number) (call_given list (board (v h) m q))) ∙ sym (ap (λ (x : Listed). x.answer.number) (whole_below h)) ∙ z in
          below h
          ∙ ap answer_of (cut_accepted list fits ss cut (board (v h) m q) n).1
          ∙ sym
          (ap (λ (x : Listed). answered (record { state = x.answer.state; pieces = handed_line (pack fresh); number = 0; place = 0 }) x.memory x.serial) (whole_below h))
      go false h = let e = ap (λ (x : Listed). x.answer.number) (list_excluded effect s h m q list) ∙ z in absurd (omega (arith, e))

-- ---- persistence: a list in pieces that is accepted at its last call makes no 1 of 0. One that is refused may: its mask load stays drawn

pub pieces_plain : (ss : List (List ℕ)) (s : Registers) (m q : List ℕ) → s.persistent ≡ 0 → (cut_call ss s m q).answer.number ≡ 0
    → (cut_call ss s m q).answer.state.persistent ≡ 0
pieces_plain ss s m q e z = go (lawful s) refl
  where
    go : (t : Bool) → lawful s ≡ t → (cut_call ss s m q).answer.state.persistent ≡ 0
    go true h =
        let list = flatten ss in
        let b = board (taken s) m q in
        let same : cut_call ss s m q ≡ answer_of (below_cut ss b)
        = ap (λ (x : Registers). cut_call ss x m q) (sym (handed_taken s h)) ∙ ends_handed ss (taken s) (pack fresh) m q in
        let fits = accepted_fits ss b (sym (ap (λ (x : Answered). x.answer.number) same) ∙ z) in
        let n : (list_call s m q list).answer.number ≡ 0 = sym (ap (λ (x : Bad). x.number) (same_verdict list fits ss refl s m q)) ∙ z in
        ap (λ (x : Answered). x.answer.state.persistent) (same_accepted list fits ss refl s m q n) ∙ list_plain s e m q list
    go false h =
        ap (λ (x : Answered). x.answer.state.persistent)
        (ends_excluded ss s (handed_line (pack fresh)) m q (ap (λ (t : Bool). t && line_lawful (handed_line (pack fresh))) h))
        ∙ e
