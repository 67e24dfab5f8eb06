-- An output there and back: three levels that a pixel can make come back as they were, and so does an output that the rules allow.
-- Assumes nothing.
use Rattle.std.specs.Prelude.{ℕ, ◌≤◌, ◌<◌, ◌≡◌, refl, Bool, true, false, ◌&&◌, cond, eqb, leb}
use Rattle.std.proofs.Common.{arith, eqb-true, ne_eqb, leb-true, leb-false, le-leb}
use Rattle.std.proofs.lemmas.Bool.{eqb-false, lt-leb}
use Rattle.numbers.specs.Between.{both, either}
use Rattle.colours.specs.declared.Output.{Output}
use Rattle.colours.specs.declared.Output.TheVariants.{Sync, Blank, Overlay, Colour}
use Rattle.colours.specs.Output.{overlaid}
use Rattle.colours.specs.State.{steps_ok}
use Rattle.colours_c.specs.declared.HeldLevels.{HeldLevels}
use Rattle.colours_c.specs.Levels.{number_of, handed_output, black_or_white, makes, taken_output}

-- ---- three levels, by what they are

pub data Kind (l : HeldLevels) : Type 0 where
  sync : l.red ≡ 17 → l.green ≡ 16 → l.blue ≡ 17 → Kind l
  blank : l.red ≡ 17 → l.green ≡ 17 → l.blue ≡ 17 → Kind l
  overlay : black_or_white l.red ≡ true → black_or_white l.green ≡ true → black_or_white l.blue ≡ true → Kind l
  steps : l.red ≤ 15 → l.green ≤ 15 → l.blue ≤ 15 → Kind l

pub kind_of : (l : HeldLevels) → makes l ≡ true → Kind l
unfolding makes
kind_of l e = go (leb l.green 15) refl (leb l.green 17) refl e
  where
    blanked : (l.green ≤ 17) → 15 < l.green → (eqb l.red 17 && eqb l.blue 17) ≡ true → Kind l
    blanked h m q =
        let f = both (eqb l.red 17) (eqb l.blue 17) q in
        let r = eqb-true l.red 17 f.0 in
        let b = eqb-true l.blue 17 f.1 in
        either_of (eqb l.green 16) refl r b
      where
        either_of : (t : Bool) → eqb l.green 16 ≡ t → l.red ≡ 17 → l.blue ≡ 17 → Kind l
        either_of true z r b = sync r (eqb-true l.green 16 z) b
        either_of false z r b = let n = eqb-false l.green 16 z in blank r (omega arith) b

    go : (p : Bool) → leb l.green 15 ≡ p → (q : Bool) → leb l.green 17 ≡ q
        → cond p (leb l.red 15 && leb l.blue 15)
        (cond q (eqb l.red 17 && eqb l.blue 17)
        ((black_or_white l.red && black_or_white l.green) && black_or_white l.blue))
        ≡ true
        → Kind l
    go true p q z e =
        let f = both (leb l.red 15) (leb l.blue 15) e in
        steps (leb-true l.red 15 f.0) (leb-true l.green 15 p) (leb-true l.blue 15 f.1)
    go false p true z e = blanked (leb-true l.green 17 z) (leb-false l.green 15 p) e
    go false p false z e =
        let f = both (black_or_white l.red && black_or_white l.green) (black_or_white l.blue) e in
        let g = both (black_or_white l.red) (black_or_white l.green) f.0 in
        overlay g.0 g.1 f.1

-- ---- there and back, from C

-- a gun in an overlay
overlay_back : (n : ℕ) → black_or_white n ≡ true → number_of (overlaid (eqb n 19)) ≡ n
overlay_back n e =
    either (number_of (overlaid (eqb n 19)) ≡ n) (eqb n 18) (eqb n 19) e
    (λ p. let q = eqb-true n 18 p in rw q) (λ p. let q = eqb-true n 19 p in rw q)

overlay_green : (n : ℕ) → black_or_white n ≡ true → 18 ≤ n
overlay_green n e =
    either (18 ≤ n) (eqb n 18) (eqb n 19) e (λ p. omega (arith, eqb-true n 18 p)) (λ p. omega (arith, eqb-true n 19 p))

pub handed_taken_output : (l : HeldLevels) → makes l ≡ true → handed_output (taken_output l) ≡ l
unfolding handed_output taken_output
handed_taken_output l e = go (kind_of l e)
  where
    go : Kind l → handed_output (taken_output l) ≡ l
    go (sync r g b) = rw (r, g, b)
    go (blank r g b) = rw (r, g, b)
    go (overlay r g b) =
        let h = overlay_green l.green g in
        rw (
          ne_eqb l.green 16 (λ z. omega arith),
          ne_eqb l.green 17 (λ z. omega arith),
          le-leb 18 l.green h,
          overlay_back l.red r,
          overlay_back l.green g,
          overlay_back l.blue b,
        )
    go (steps r g b) =
        rw (
          ne_eqb l.green 16 (λ z. omega arith),
          ne_eqb l.green 17 (λ z. omega arith),
          lt-leb 18 l.green (omega arith),
        )

-- what C may hand over is no step over 15
pub taken_steps : (l : HeldLevels) → makes l ≡ true → steps_ok (taken_output l) ≡ true
unfolding taken_output
taken_steps l e = go (kind_of l e)
  where
    go : Kind l → steps_ok (taken_output l) ≡ true
    go (sync r g b) = rw g
    go (blank r g b) = rw g
    go (overlay r g b) =
        let h = overlay_green l.green g in
        rw (ne_eqb l.green 16 (λ z. omega arith), ne_eqb l.green 17 (λ z. omega arith), le-leb 18 l.green h)
    go (steps r g b) =
        rw (
          ne_eqb l.green 16 (λ z. omega arith),
          ne_eqb l.green 17 (λ z. omega arith),
          lt-leb 18 l.green (omega arith),
          le-leb l.red 15 r,
          le-leb l.green 15 g,
          le-leb l.blue 15 b,
        )

-- ---- and from `colours`

gun_black_or_white : (p : Bool) → black_or_white (number_of (overlaid p)) ≡ true
gun_black_or_white true = refl
gun_black_or_white false = refl

gun_back : (p : Bool) → eqb (number_of (overlaid p)) 19 ≡ p
gun_back true = refl
gun_back false = refl

gun_named : (p : Bool) (n : ℕ) → n ≤ 17 → eqb (number_of (overlaid p)) n ≡ false
gun_named true n h = ne_eqb 19 n (λ z. omega arith)
gun_named false n h = ne_eqb 18 n (λ z. omega arith)

gun_high : (p : Bool) → leb 18 (number_of (overlaid p)) ≡ true
gun_high true = refl
gun_high false = refl

gun_over : (p : Bool) (n : ℕ) → n ≤ 17 → leb (number_of (overlaid p)) n ≡ false
gun_over true n h = lt-leb 19 n (omega arith)
gun_over false n h = lt-leb 18 n (omega arith)

pub handed_makes : (o : Output) → steps_ok o ≡ true → makes (handed_output o) ≡ true
unfolding makes handed_output
handed_makes Sync e = refl
handed_makes Blank e = refl
handed_makes (Overlay r g b) e =
    rw (
      gun_over g 15 (omega arith),
      gun_over g 17 (omega arith),
      gun_black_or_white r,
      gun_black_or_white g,
      gun_black_or_white b,
    )
handed_makes (Colour r g b) e =
    let f = both (leb r 15 && leb g 15) (leb b 15) e in
    let h = both (leb r 15) (leb g 15) f.0 in
    rw (h.0, h.1, f.1)

pub taken_handed_output : (o : Output) → steps_ok o ≡ true → taken_output (handed_output o) ≡ o
unfolding taken_output handed_output
taken_handed_output Sync e = refl
taken_handed_output Blank e = refl
taken_handed_output (Overlay r g b) e =
    rw (gun_named g 16 (omega arith), gun_named g 17 (omega arith), gun_high g, gun_back r, gun_back g, gun_back b)
taken_handed_output (Colour r g b) e =
    let f = both (leb r 15 && leb g 15) (leb b 15) e in
    let n = leb-true g 15 (both (leb r 15) (leb g 15) f.0).1 in
    rw (ne_eqb g 16 (λ z. omega arith), ne_eqb g 17 (λ z. omega arith), lt-leb 18 g (omega arith))
