-- Laws of the calls: the ways out of each, and what each leaves. Assumes nothing.
use Rattle.std.specs.Prelude.{◌≡◌, Bool, true, false, List, ◌≢◌, ℕ}
use Rattle.std.proofs.Math.Path.{refl, sym, ap, ap₂}
use Rattle.std.proofs.Common.{◌∙◌}
use Rattle.numbers.specs.Refuse.{refuse}
use Rattle.numbers.specs.RefuseLaws.{refuse_zero, leaves_made, leaves_before}
use Rattle.vram.specs.Board.{Board}
use Rattle.vram.specs.Step.{given_of}
use Rattle.list.specs.Meaning.{Bad}
use Rattle.list.specs.Meaning.{bad}
use Rattle.pieces.specs.declared.Pieces.{Pieces}
use Rattle.pieces.specs.Line.{Line, fresh, port, piece, so_far, at_last}
use Rattle.pieces.specs.Pieces.{pack, unpack, possible, sound}
use Rattle.pieces.specs.PackLaws.{made_sound, unpack_pack}
use Rattle.pieces.specs.Calls.{Outcome, gives, first_number, unless, fed, take_call, end_call}

-- ---- before any byte

module _ (p : Pieces) (b : Board) where
  pub first_zero : first_number p b ≡ 0 → (sound p ≡ true) × (given_of b ≡ 0)
  unfolding first_number
  first_zero z = refuse_zero (sound p) 0 (given_of b) z

  pub first_given : sound p ≡ true → first_number p b ≡ given_of b
  unfolding first_number
  first_given h = ap (λ (t : Bool). refuse t 1 (given_of b)) h

  pub first_excluded : sound p ≡ false → first_number p b ≡ 1
  unfolding first_number
  first_excluded h = ap (λ (t : Bool). refuse t 1 (given_of b)) h

  -- n is the number that the code has
  module _ (made : Outcome) (n : ℕ) (e : n ≡ first_number p b) where
    unless_first : n ≢ 0 → gives (bad n 0) p b ≡ unless p b made
    unless_first h =
        ap (λ (k : ℕ). gives (bad k 0) p b) e ∙ sym (leaves_before (first_number p b) (gives (bad (first_number p b) 0) p b) made (λ z. h (e ∙ z)))

    unless_made : n ≡ 0 → made ≡ unless p b made
    unless_made z = sym (leaves_made (first_number p b) (gives (bad (first_number p b) 0) p b) made (sym e ∙ z))

-- ---- the ways out of a piece and of the last call, by what the code has

module _ (p : Pieces) (b : Board) (n : ℕ) (e : n ≡ first_number p b) where
  pub take_first : n ≢ 0 → (s : List ℕ) → gives (bad n 0) p b ≡ take_call p s b
  unfolding take_call
  take_first h s = unless_first p b _ n e h

  pub take_done : n ≡ 0 → (s : List ℕ) (q : Pieces) (b' : Board) → (let o = piece (port (unpack p) b) s in (q ≡ pack o.line) × (b' ≡ o.on))
      → gives (so_far (unpack q)) q b' ≡ take_call p s b
  unfolding take_call so_far
  take_done z s q b' f =
      ap₂ (λ (x : Pieces) (y : Board). gives (so_far (unpack x)) x y) f.0 f.1 ∙ unless_made p b (fed (piece (port (unpack p) b) s)) n e z

  pub end_first : n ≢ 0 → gives (bad n 0) p b ≡ end_call p b
  unfolding end_call
  end_first h = unless_first p b _ n e h

  pub end_done : n ≡ 0 → (v : Bad) → v ≡ at_last (unpack p) → (q : Pieces) → q ≡ pack fresh → gives v q b ≡ end_call p b
  unfolding end_call
  end_done z v f q g = ap₂ (λ (x : Bad) (y : Pieces). gives x y b) f g ∙ unless_made p b _ n e z

-- ---- where none of these numbers is given

module _ (p : Pieces) (b : Board) (f : first_number p b ≡ 0) where
  pub take_is : (s : List ℕ) → take_call p s b ≡ fed (piece (port (unpack p) b) s)
  unfolding take_call
  take_is s = sym (unless_made p b _ (first_number p b) refl f)

  pub end_is : end_call p b ≡ gives (at_last (unpack p)) (pack fresh) b
  unfolding end_call
  end_is = sym (unless_made p b _ (first_number p b) refl f)

-- ---- a call on a line that meets the rule

module _ (l : Line) (h : possible l ≡ true) (b : Board) where
  made_first : first_number (pack l) b ≡ given_of b
  made_first = first_given (pack l) b (made_sound l h)

  -- 1 to 3 take no byte, and the list goes on
  pub take_given : given_of b ≢ 0 → (s : List ℕ) → take_call (pack l) s b ≡ gives (bad (given_of b) 0) (pack l) b
  take_given n s = sym (take_first (pack l) b (given_of b) (sym made_first) n s)

  pub end_given : given_of b ≢ 0 → end_call (pack l) b ≡ gives (bad (given_of b) 0) (pack l) b
  end_given n = sym (end_first (pack l) b (given_of b) (sym made_first) n)

  module _ (g : given_of b ≡ 0) where
    pub take_made : (s : List ℕ) → take_call (pack l) s b ≡ fed (piece (port l b) s)
    unfolding take_call
    take_made s =
        sym (unless_made (pack l) b _ (given_of b) (sym made_first) g) ∙ ap (λ (x : Line). fed (piece (port x b) s)) (unpack_pack l h)

    pub end_made : end_call (pack l) b ≡ gives (at_last l) (pack fresh) b
    unfolding end_call
    end_made = sym (unless_made (pack l) b _ (given_of b) (sym made_first) g) ∙ ap (λ (x : Line). gives (at_last x) (pack fresh) b) (unpack_pack l h)
