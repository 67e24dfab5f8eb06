-- What a pan means at zero, at both ends, twice, and for the next frame. Assumes nothing.
use Rattle.std.specs.Prelude.{◌≡◌, ℕ, suc, ◌+◌, ◌-◌, ◌*◌, Bool, true, false, cond, List, ◌∷◌, ℤ, pos, negsuc, ◌+ℤ◌, nat_lt, refl}
use Rattle.std.proofs.Common.{sym, ap, subst, ◌∙◌, arith, add_assoc, ltb-true, ltb-false}
use Rattle.std.proofs.Math.IntN.{+ℤ_assoc}
use Rattle.controller.specs.declared.Controller.{Controller}
use Rattle.controller.specs.State.{with_top, overrides, ruled}
use Rattle.controller.specs.StateLaws.{ruled_parts, ruled_whole}
use Rattle.controller.specs.Address.{wrap, wrapped, reaches, panned}
use Rattle.controller.specs.AddressLaws.{wrapped_before, panned_on}
use Rattle.controller.specs.Calls.{Call, Pan, allows, against, effect, after, controlled, does, fetch_call}
use Rattle.controller.specs.CallLaws.{number_accepted, number_against, after_done}
use Rattle.controller.specs.Session.{session}
use Rattle.controller.proofs.SessionLaws.{after_ruled}
use Rattle.controller.specs.Frame.{frame, Gap, Answers}
use Rattle.controller.proofs.FrameAddress.{frame_address}

-- from -131,072 to 131,071, and no further
pub ends_reached : (reaches (negsuc 131071) ≡ true) × (reaches (pos 131071) ≡ true)
ends_reached = (refl, refl)

pub ends_passed : (reaches (negsuc 131072) ≡ false) × (reaches (pos 131072) ≡ false)
ends_passed = (refl, refl)

module _ (s : Controller) (r : ruled s ≡ true) where
  pan_done : (words : ℤ) → reaches words ≡ true → after (Pan words) s ≡ with_top s (panned s.top words)
  unfolding allows effect
  pan_done words e = after_done (Pan words) s (record { rule = ruled_parts s r; allowed = e })

  pan_ruled : (words : ℤ) → reaches words ≡ true → ruled (with_top s (panned s.top words)) ≡ true
  pan_ruled words e = ap ruled (sym (pan_done words e)) ∙ ruled_whole (after (Pan words) s) (after_ruled (Pan words) s (ruled_parts s r))

  -- a pan that does not reach is refused
  pub pan_refused : (words : ℤ) → reaches words ≡ false → does (Pan words) s ≡ controlled 16 s
  unfolding allows against
  pan_refused words e = rw (number_against (Pan words) s r e)

  -- an accepted pan gives Top of Frame the wrapped sum, and changes nothing else
  pub pan_sum : (words : ℤ) → reaches words ≡ true → {n : ℕ} → panned s.top words ≡ n
      → does (Pan words) s ≡ controlled 0 (with_top s n)
  unfolding allows effect
  pan_sum words e f = rw (number_accepted (Pan words) s (record { rule = ruled_parts s r; allowed = e }), f)

  -- by 0 nothing changes
  pub pan_zero : does (Pan (pos 0)) s ≡ controlled 0 s
  pan_zero = let e : wrap (s.top + 0) ≡ s.top = omega (arith, (ruled_parts s r).top) in pan_sum (pos 0) refl e

  -- by -131,072 and by 131,071 the exact sums: below 0 one turn of 262,144 is added, from 262,144 on one is taken off
  pub pan_least : does (Pan (negsuc 131071)) s ≡ controlled 0 (with_top s (cond (nat_lt s.top 131072) (s.top + 131072) (s.top - 131072)))
  pan_least = pan_sum (negsuc 131071) refl (go (nat_lt s.top 131072) refl)
    where
      go : (t : Bool) → nat_lt s.top 131072 ≡ t
          → wrapped (cond t (negsuc (131072 - suc s.top)) (pos (s.top - 131072))) ≡ cond t (s.top + 131072) (s.top - 131072)
      go true e = omega (arith, ltb-true s.top 131072 e, (ruled_parts s r).top)
      go false e = omega (arith, ltb-false s.top 131072 e, (ruled_parts s r).top)

  pub pan_most : does (Pan (pos 131071)) s ≡ controlled 0 (with_top s (cond (nat_lt s.top 131073) (s.top + 131071) (s.top - 131073)))
  pan_most = pan_sum (pos 131071) refl (go (nat_lt s.top 131073) refl)
    where
      go : (t : Bool) → nat_lt s.top 131073 ≡ t → wrap (s.top + 131071) ≡ cond t (s.top + 131071) (s.top - 131073)
      go true e = omega (arith, ltb-true s.top 131073 e, (ruled_parts s r).top)
      go false e = omega (arith, ltb-false s.top 131073 e, (ruled_parts s r).top)

-- two pans whose sum is in range are one pan of the sum
pub pan_pan : (s : Controller) → ruled s ≡ true → (m n : ℤ) → reaches m ≡ true → reaches n ≡ true → reaches (m +ℤ n) ≡ true
    → does (Pan n) (after (Pan m) s) ≡ does (Pan (m +ℤ n)) s
pan_pan s r m n e f g =
    let t = with_top s (panned s.top m) in
    let h : panned (panned s.top m) n ≡ panned s.top (m +ℤ n) =
    wrapped_before (pos s.top +ℤ m) n ∙ ap wrapped (+ℤ_assoc (pos s.top) m n) in
    ap (does (Pan n)) (pan_done s r m e) ∙ pan_sum t (pan_ruled s r m e) n f h ∙ sym (pan_sum s r (m +ℤ n) g refl)

-- a pan by n moves every address of the next frame by n (`frame_address` has the address before)
pub pan_moves_frame : (s : Controller) → ruled s ≡ true → (words : ℤ) → reaches words ≡ true
    → {gap : List Call} → Gap s.video (overrides s.update) gap false false → (w l k : ℕ)
    → Answers (fetch_call (session (Pan words ∷ frame gap w l k) s)) (panned (wrap (s.top + l * (w + s.offset) + k)) words)
pan_moves_frame s r words e {gap} b w l k =
    let t = with_top s (panned s.top words) in
    let a = l * (w + s.offset) in
    let f : wrap (panned s.top words + a + k) ≡ panned (wrap (s.top + a + k)) words =
    rw (add_assoc (panned s.top words) a k, add_assoc s.top a k) (panned_on s.top (a + k) words) in
    subst (λ (x : Controller). Answers (fetch_call (session (frame gap w l k) x)) (panned (wrap (s.top + a + k)) words))
    (sym (pan_done s r words e))
    (subst (Answers (fetch_call (session (frame gap w l k) t))) f (frame_address t (pan_ruled s r words e) b w l k))
