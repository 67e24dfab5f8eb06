-- Every cutting of a list: it does not matter where a list of at most 4,294,967,295 bytes is cut, nor whether pieces are empty. Change
-- request M-109. Assumes nothing.
use Rattle.std.specs.Prelude.{◌≡◌, refl, Bool, true, false, ◌≢◌, ℕ, ◌≤◌, eqb, length, take}
use Rattle.std.proofs.Common.{sym, ap, ap₂, ◌∙◌, eqb-true, List, map}
use mathlib.Core.List.{flatten}
use Rattle.std.proofs.lemmas.Bool.{eqb-false}
use Rattle.vram.specs.Board.{Board}
use Rattle.vram.specs.Step.{given_of, rows_of, run}
use Rattle.list.specs.Meaning.{Bad}
use Rattle.list.specs.Fields.{Field, fields}
use Rattle.list.specs.Meaning.{bad, verdict, cycles, cycles_of, verdict_of, run_call}
use Rattle.list.proofs.CallLaws.{verdict_given, verdict_fields, accepted_given, accepted_fields, accepted_zeros, call_runs}
use Rattle.pieces.specs.declared.Pieces.{Pieces}
use Rattle.pieces.specs.Line.{fresh, port, limit, piece, at_last}
use Rattle.pieces.specs.Pieces.{pack}
use Rattle.pieces.proofs.KeepLaws.{fresh_possible}
use Rattle.pieces.specs.Meant.{passing}
use Rattle.pieces.proofs.MeantLaws.{all_pass}
use Rattle.pieces.specs.PlaceLaws.{place_passing}
use Rattle.pieces.specs.Calls.{Outcome, gives}
use Rattle.pieces.specs.Cutting.{cut_answers, cut_call}
use Rattle.pieces.proofs.CutLaws.{ends_given, ends_joined, answers_zero, new_given, new_after, new_number}

-- ---- of any length

module _ (list : List ℕ) (ss : List (List ℕ)) (cut : flatten ss ≡ list) (b : Board) where
  joined : given_of b ≡ 0 → (let o = piece (port fresh b) list in cut_call ss b ≡ gives (at_last o.line) (pack fresh) o.on)
  joined g =
      ends_joined ss fresh fresh_possible b g
      ∙ ap (λ (s : List ℕ). let o = piece (port fresh b) s in gives (at_last o.line) (pack fresh) o.on) cut

  -- after the last call, accepted or refused, the next piece starts a new list
  pub cut_new : (cut_call ss b).pieces ≡ pack fresh
  cut_new = go (eqb (given_of b) 0) refl
    where
      go : (t : Bool) → eqb (given_of b) 0 ≡ t → (cut_call ss b).pieces ≡ pack fresh
      go true q = ap (λ (o : Outcome). o.pieces) (joined (eqb-true _ _ q))
      go false q = ap (λ (o : Outcome). o.pieces) (ends_given ss fresh fresh_possible b (eqb-false _ _ q))

  -- where 1 to 3 refuse, nothing is drawn
  pub cut_nothing : given_of b ≢ 0 → (cut_call ss b).after ≡ b
  cut_nothing n = ap (λ (o : Outcome). o.after) (ends_given ss fresh fresh_possible b n)

-- ---- of at most 4,294,967,295 bytes

module _ (list : List ℕ) (fits : length list ≤ limit) (ss : List (List ℕ)) (cut : flatten ss ≡ list) (b : Board) where
  -- number and place of the last call are those of the whole-list call
  pub cut_verdict : (cut_call ss b).given ≡ verdict_of list b
  cut_verdict = go (eqb (given_of b) 0) refl
    where
      go : (t : Bool) → eqb (given_of b) 0 ≡ t → (cut_call ss b).given ≡ verdict_of list b
      go true q = let g = eqb-true _ _ q in ap (λ (o : Outcome). o.given) (joined list ss cut b g) ∙ new_given list fits b g
      go false q =
          let n = eqb-false _ _ q in
          ap (λ (o : Outcome). o.given) (ends_given ss fresh fresh_possible b n) ∙ sym (verdict_given list b n)

  -- ---- what is drawn, where 1 to 3 pass

  module _ (g : given_of b ≡ 0) where
    -- the fields before the first that is refused, all where none is
    pub cut_passing : (cut_call ss b).after ≡ run (cycles (passing (rows_of b) b.state.loaded (fields list))) b
    cut_passing = ap (λ (o : Outcome). o.after) (joined list ss cut b g) ∙ new_after list fits b g

    -- where a field is refused, what the fields before its place draw
    pub cut_before : (verdict (rows_of b) b.state.loaded 0 (fields list)).number ≢ 0
        → (cut_call ss b).after ≡ run (cycles_of (take (verdict_of list b).place list)) b
    cut_before n =
        cut_passing
        ∙ ap (λ (fs : List Field). run (cycles fs) b) (sym (place_passing (rows_of b) b.state.loaded list n))
        ∙ ap (λ (v : Bad). run (cycles_of (take v.place list)) b) (sym (verdict_fields list b g n))

    -- where none is, all: also where a mask is left behind
    pub cut_all : (verdict (rows_of b) b.state.loaded 0 (fields list)).number ≡ 0 → (cut_call ss b).after ≡ run (cycles_of list) b
    cut_all z = cut_passing ∙ ap (λ (fs : List Field). run (cycles fs) b) (all_pass (rows_of b) b.state.loaded 0 (fields list) z)

  -- ---- accepted: every call gives 0, and state, memory and serial register are those of the whole-list call

  pub cut_accepted : (verdict_of list b).number ≡ 0
      → (cut_answers ss b ≡ map (λ (s : List ℕ). bad 0 0) ss) × (cut_call ss b ≡ gives (bad 0 0) (pack fresh) (run_call list b).after)
  cut_accepted z =
      let g = accepted_given list b z in (
        answers_zero ss fresh fresh_possible b g (ap (λ (s : List ℕ). (piece (port fresh b) s).line.number) cut ∙ new_number list fits b g z),
        ap (λ (p : Pieces). gives (cut_call ss b).given p (cut_call ss b).after) (cut_new list ss cut b)
            ∙ ap₂ (λ (v : Bad) (x : Board). gives v (pack fresh) x) (cut_verdict ∙ accepted_zeros list b z)
            (cut_all g (accepted_fields list b z) ∙ sym (call_runs list b z)),
      )
