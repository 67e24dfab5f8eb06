-- A walk over what is left of a slice, by its test. Assumes nothing.
use Rattle.std.specs.Prelude.{◌≡◌, ◌<◌, Bool, true, false, ℕ, List, length, eqb}
use Rattle.std.proofs.Common.{sym, ◌∙◌, arith, eqb-true}
use Rattle.std.proofs.lemmas.Bool.{eqb-false}

module _ {t : Bool} (s : List ℕ) (e : t ≡ eqb (length s) 0) where
  pub rest_some : t ≡ false → 0 < length s
  rest_some h = let n = eqb-false (length s) 0 (sym e ∙ h) in omega (arith, n)

  pub rest_none : t ≡ true → length s ≡ 0
  rest_none h = eqb-true (length s) 0 (sym e ∙ h)
