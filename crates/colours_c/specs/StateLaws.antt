-- The state there and back: what C hands over and is lawful comes back as it was, and so does a state that the rules allow. What C hands
-- over and is lawful is a state that the rules allow. Assumes nothing.
use Rattle.std.specs.Prelude.{ℕ, ◌≡◌, refl, true, ◌&&◌, eqb, Option}
use Rattle.std.proofs.Common.{eqb-true}
use Rattle.numbers.specs.Between.{both, either}
use Rattle.words.specs.Bit.{digit}
use Rattle.colours.specs.declared.Colours.{Colours}
use Rattle.std.specs.Prelude.Option.{None, Some}
use Rattle.colours.specs.State.{waits, low_waiting, ruled}
use Rattle.colours.proofs.StateLaws.{ruled_parts, ruled_whole}
use Rattle.colours_c.specs.declared.Held.{Held}
use Rattle.colours_c.specs.Levels.{makes}
use Rattle.colours_c.specs.LevelLaws.{handed_taken_output, taken_steps, handed_makes, taken_handed_output}
use Rattle.colours_c.specs.State.{part_ok, lawful, taken_waiting, taken, handed}

-- ---- the low part

-- waiting and low come back
part_back : (w l : ℕ) → part_ok w l ≡ true → (digit (waits (taken_waiting w l)) ≡ w) × (low_waiting (taken_waiting w l) ≡ l)
part_back w l e =
    either ((digit (waits (taken_waiting w l)) ≡ w) × (low_waiting (taken_waiting w l) ≡ l)) (eqb w 1) (eqb w 0 && eqb l 0) e
    (λ p. let q = eqb-true w 1 p in rw q (refl, refl))
    (λ p. let b = both (eqb w 0) (eqb l 0) p in let q = eqb-true w 0 b.0 in let r = eqb-true l 0 b.1 in rw (q, r) (refl, refl))

waiting_part_ok : (w : Option ℕ) → part_ok (digit (waits w)) (low_waiting w) ≡ true
waiting_part_ok None = refl
waiting_part_ok (Some low) = refl

waiting_back : (w : Option ℕ) → taken_waiting (digit (waits w)) (low_waiting w) ≡ w
waiting_back None = refl
waiting_back (Some low) = refl

-- ---- the state

-- the four parts of the rule
record Lawful (h : Held) : Type 0 where
  part : part_ok h.waiting h.low ≡ true
  first : makes h.first ≡ true
  second : makes h.second ≡ true
  third : makes h.third ≡ true

lawful_parts : (h : Held) → lawful h ≡ true → Lawful h
unfolding lawful
lawful_parts h e =
    let a = both ((part_ok h.waiting h.low && makes h.first) && makes h.second) (makes h.third) e in
    let b = both (part_ok h.waiting h.low && makes h.first) (makes h.second) a.0 in
    let c = both (part_ok h.waiting h.low) (makes h.first) b.0 in
    record { part = c.0; first = c.1; second = b.1; third = a.1 }

pub handed_taken : (h : Held) → lawful h ≡ true → handed (taken h) ≡ h
unfolding taken handed
handed_taken h e =
    let p = lawful_parts h e in
    let w = part_back h.waiting h.low p.part in
    rw (
      w.0,
      w.1,
      handed_taken_output h.first p.first,
      handed_taken_output h.second p.second,
      handed_taken_output h.third p.third,
    )

-- and is a state that the rules allow, so that 1 is `lawful`'s alone
pub taken_ruled : (h : Held) → lawful h ≡ true → ruled (taken h) ≡ true
unfolding taken
taken_ruled h e =
    let p = lawful_parts h e in
    ruled_whole (taken h)
    (record {
      first = taken_steps h.first p.first;
      second = taken_steps h.second p.second;
      third = taken_steps h.third p.third;
    })

pub taken_handed : (s : Colours) → ruled s ≡ true → taken (handed s) ≡ s
unfolding taken handed
taken_handed s e =
    let p = ruled_parts s e in
    rw (
      waiting_back s.waiting,
      taken_handed_output s.first p.first,
      taken_handed_output s.second p.second,
      taken_handed_output s.third p.third,
    )

pub handed_lawful : (s : Colours) → ruled s ≡ true → lawful (handed s) ≡ true
unfolding lawful handed
handed_lawful s e =
    let p = ruled_parts s e in
    rw (
      waiting_part_ok s.waiting,
      handed_makes s.first p.first,
      handed_makes s.second p.second,
      handed_makes s.third p.third,
    )
