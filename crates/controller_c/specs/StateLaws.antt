-- The state there and back: what C hands over and is lawful comes back as it was, and what is handed to C is lawful and is taken back as the
-- state it was. Assumes nothing.
use Rattle.std.specs.Prelude.{ℕ, zero, suc, ◌≤◌, ◌≡◌, refl, true, ◌&&◌, leb}
use Rattle.std.proofs.Common.{arith, leb-true}
use Rattle.numbers.specs.Between.{both}
use Rattle.words.specs.BitLaws.{yes_or_no, digit_yes, digit_small}
use Rattle.controller.specs.declared.Controller.{Controller}
use Rattle.controller.specs.declared.Update.{Update}
use Rattle.controller.specs.declared.Update.TheVariants.{Retrace, Override, Interleaved}
use Rattle.controller.specs.State.{update_of, number_of}
use Rattle.controller_c.specs.declared.Held.{Held}
use Rattle.controller_c.specs.State.{lawful, taken, handed}

-- ---- the update mode

of_number : (u : Update) → update_of (number_of u) ≡ u
of_number Retrace = refl
of_number Override = refl
of_number Interleaved = refl

number_of_update : (n : ℕ) → n ≤ 2 → number_of (update_of n) ≡ n
number_of_update zero h = refl
number_of_update (suc zero) h = refl
number_of_update (suc (suc zero)) h = refl
number_of_update (suc (suc (suc n))) h = absurd (omega arith)

number_small : (u : Update) → leb (number_of u) 2 ≡ true
number_small Retrace = refl
number_small Override = refl
number_small Interleaved = refl

-- ---- the state

pub handed_taken : (h : Held) → lawful h ≡ true → handed (taken h) ≡ h
unfolding lawful taken handed
handed_taken h e =
    let a = both ((leb h.update 2 && leb h.page 1) && leb h.video 1) (leb h.inhibited 1) e in
    let b = both (leb h.update 2 && leb h.page 1) (leb h.video 1) a.0 in
    let c = both (leb h.update 2) (leb h.page 1) b.0 in
    rw (
      number_of_update h.update (leb-true h.update 2 c.0),
      yes_or_no h.page (leb-true h.page 1 c.1),
      yes_or_no h.video (leb-true h.video 1 b.1),
      yes_or_no h.inhibited (leb-true h.inhibited 1 a.1),
    )

pub taken_handed : (s : Controller) → taken (handed s) ≡ s
unfolding taken handed
taken_handed s = rw (of_number s.update, digit_yes s.page, digit_yes s.video, digit_yes s.inhibited)

pub handed_lawful : (s : Controller) → lawful (handed s) ≡ true
unfolding lawful handed
handed_lawful s = rw (number_small s.update, digit_small s.page, digit_small s.video, digit_small s.inhibited)
