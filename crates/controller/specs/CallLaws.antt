-- The number that a call gives; it is refused and changes nothing, or is done. Assumes nothing.
use Rattle.std.specs.Prelude.{◌≡◌, ℕ, ◌≤◌, true, false, not, ◌&&◌, ◌||◌, ◌≢◌, ◌==◌, nat_le, refl}
use Rattle.std.proofs.Common.{sym, ◌∙◌, leb-true}
use Rattle.numbers.specs.Between.{both}
use Rattle.numbers.specs.Refuse.{refuse}
use Rattle.numbers.specs.RefuseLaws.{refuse_zero, leaves_made, leaves_before, refused_is, done_is}
use Rattle.controller.specs.declared.Controller.{Controller}
use Rattle.controller.specs.State.{ruled}
use Rattle.controller.specs.StateLaws.{Ruled, ruled_parts, ruled_whole}
use Rattle.controller.specs.Calls.{Call, SetTopOfFrame, Pan, SetOffset, SetMode, Video, HorizontalSync, VerticalSync, Fetch, mode_allowed, allows, against, refusal, number, effect, after, controlled, does, fetched, fetch_call}

-- ---- what an accepted call was given

pub mode_parts : (cycles page update : ℕ) → mode_allowed cycles page update ≡ true
    → (cycles ≤ 3) × (update ≤ 2) × ((page == 0 || not (update == 2)) ≡ true)
mode_parts cycles page update e =
    let h = both (nat_le cycles 3 && nat_le update 2) (page == 0 || not (update == 2)) e in
    let g = both (nat_le cycles 3) (nat_le update 2) h.0 in
    (leb-true cycles 3 g.0, leb-true update 2 g.1, h.1)

pub record Accepted (c : Call) (s : Controller) : Type 0 where
  pub rule : Ruled s
  pub allowed : allows c s ≡ true

-- where the call's own test gives no number it holds
own_zero : (c : Call) (s : Controller) → refuse (allows c s) (against c) 0 ≡ 0 → allows c s ≡ true
unfolding allows against
own_zero (SetTopOfFrame address) s e = (refuse_zero (allows (SetTopOfFrame address) s) 15 0 e).0
own_zero (Pan words) s e = (refuse_zero (allows (Pan words) s) 15 0 e).0
own_zero (SetOffset offset) s e = (refuse_zero (allows (SetOffset offset) s) 15 0 e).0
own_zero (SetMode cycles page update) s e = (refuse_zero (allows (SetMode cycles page update) s) 15 0 e).0
own_zero (Video on) s e = refl
own_zero HorizontalSync s e = refl
own_zero VerticalSync s e = refl
own_zero Fetch s e = (refuse_zero (allows Fetch s) 16 0 e).0

pub number_zero : (c : Call) (s : Controller) → number c s ≡ 0 → Accepted c s
unfolding refusal
number_zero c s e =
    let f = refuse_zero (ruled s) 0 (refuse (allows c s) (against c) 0) e in
    record { rule = ruled_parts s f.0; allowed = own_zero c s f.1 }

-- and every such call is accepted
pub number_accepted : (c : Call) (s : Controller) → Accepted c s → number c s ≡ 0
unfolding refusal
number_accepted c s a = rw (ruled_whole s a.rule, a.allowed)

-- a state that the rules allow, and the call's own test fails: its number
pub number_against : (c : Call) (s : Controller) → ruled s ≡ true → allows c s ≡ false → number c s ≡ against c
unfolding refusal
number_against c s r e = rw (r, e)

-- ---- the two ways out

pub after_done : (c : Call) (s : Controller) → Accepted c s → after c s ≡ effect c s
after_done c s a = leaves_made (number c s) s (effect c s) (number_accepted c s a)

-- a refusal changes nothing
pub refused_keeps : (c : Call) (s : Controller) → number c s ≢ 0 → after c s ≡ s
refused_keeps c s h = leaves_before (number c s) s (effect c s) h

-- the same of a number n that is the one the call gives
module _ (c : Call) (s : Controller) (n : ℕ) (e : n ≡ number c s) where
  pub call_given : n ≡ 0 → Accepted c s
  call_given z = number_zero c s (sym e ∙ z)

  pub call_refused : n ≢ 0 → controlled n s ≡ does c s
  call_refused h = refused_is controlled n (number c s) s (effect c s) e h

  pub call_done : {t : Controller} → n ≡ 0 → t ≡ effect c s → controlled 0 t ≡ does c s
  call_done {t} z f = done_is controlled n (number c s) s (effect c s) t e z f

module _ (s : Controller) (n : ℕ) (e : n ≡ number Fetch s) where
  pub fetch_refused : n ≢ 0 → fetched n s 0 ≡ fetch_call s
  fetch_refused h = rw (← e, leaves_before n s (effect Fetch s) h, leaves_before n 0 s.counter h)

  pub fetch_done : {t : Controller} → n ≡ 0 → t ≡ effect Fetch s → fetched 0 t s.counter ≡ fetch_call s
  fetch_done z f = rw (← e, z, f)
