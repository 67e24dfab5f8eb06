-- Laws of what is left of a buffer. Assumes nothing.
use Rattle.std.specs.Prelude.{ℕ, ◌+◌, ◌-◌, ◌≤◌, ◌<◌, ◌≡◌, refl, Bool, true, false, cond, leb}
use Rattle.std.proofs.Common.{sym, ap, ◌∙◌, arith, leb-true, leb-false, le-leb}
use Rattle.std.proofs.lemmas.Bool.{lt-leb}
use Rattle.numbers.specs.Refuse.{refuse}
use Rattle.std.specs.Prelude.{Option}
use Rattle.std.specs.Prelude.Option.{None, Some}
use Rattle.page.specs.Rooms.{takes, room_number}

module _ (room n : ℕ) where
  pub takes_fits : n ≤ room → takes (Some room) n ≡ Some (room - n)
  unfolding takes
  takes_fits h = rw (le-leb n room h)

  pub takes_over : room < n → takes (Some room) n ≡ None
  unfolding takes
  takes_over h = rw (lt-leb n room h)

pub takes_passed : (n : ℕ) → takes None n ≡ None
unfolding takes
takes_passed n = refl

pub takes_none : (room : Option ℕ) → takes room 0 ≡ room
takes_none (Some room) = let e : room - 0 ≡ room = omega arith in takes_fits room 0 (omega arith) ∙ ap Some e
takes_none None = takes_passed 0

-- some bytes and then some
pub takes_more : (room : Option ℕ) (m n : ℕ) → takes (takes room m) n ≡ takes room (m + n)
takes_more None m n = ap (λ (r : Option ℕ). takes r n) (takes_passed m) ∙ takes_passed n ∙ sym (takes_passed (m + n))
takes_more (Some room) m n = go (leb m room) (leb n (room - m)) refl refl
  where
    go : (t u : Bool) → leb m room ≡ t → leb n (room - m) ≡ u → takes (takes (Some room) m) n ≡ takes (Some room) (m + n)
    go true true p q =
        let a = leb-true m room p in
        let b = leb-true n (room - m) q in
        let e : room - m - n ≡ room - (m + n) = omega arith in
        ap (λ (r : Option ℕ). takes r n) (takes_fits room m a)
        ∙ takes_fits (room - m) n b ∙ ap Some e ∙ sym (takes_fits room (m + n) (omega arith))
    go true false p q =
        let a = leb-true m room p in
        let b = leb-false n (room - m) q in
        ap (λ (r : Option ℕ). takes r n) (takes_fits room m a) ∙ takes_over (room - m) n b ∙ sym (takes_over room (m + n) (omega arith))
    go false u p q =
        let a = leb-false m room p in
        ap (λ (r : Option ℕ). takes r n) (takes_over room m a) ∙ takes_passed n ∙ sym (takes_over room (m + n) (omega arith))

-- ---- 15 where the buffer is shorter than the bytes needed

pub room_short : (room n : ℕ) → room_number (takes (Some room) n) ≡ refuse (leb n room) 15 0
unfolding room_number takes
room_short room n = go (leb n room)
  where
    go : (t : Bool) → room_number (cond t (Some (room - n)) None) ≡ refuse t 15 0
    go true = refl
    go false = refl
