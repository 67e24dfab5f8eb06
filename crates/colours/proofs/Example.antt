-- A small session as a table, each row computed from the definitions: parts that are refused and stored, and pixels with writes between.
-- Assumes nothing.
use Rattle.std.specs.Prelude.{ℕ, ◌≡◌, refl, Bool, true, false, List, [], ◌∷◌, replicate, Option}
use Rattle.words.specs.Bit.{bit}
use Rattle.std.specs.Prelude.Option.{None, Some}
use Rattle.colours.specs.declared.Output.{Output}
use Rattle.colours.specs.declared.Output.TheVariants.{Sync, Blank, Overlay, Colour}
use Rattle.colours.specs.declared.Inputs.{Inputs}
use Rattle.colours.specs.Output.{asks}
use Rattle.colours.specs.State.{fresh, ruled}
use Rattle.colours.specs.Calls.{write_refusal, low_refusal, high_refusal, read_refusal, pixel_refusal, write_call, write_low_call, write_high_call, pixel_call}
use Rattle.colours.specs.Session.{Board, board, Write, WriteLow, WriteHigh, Pixel, after}

-- a call, the number that it gives, and the low part that waits then; or a pixel, its number and what comes out
pub data Row : Type 0 where
  write : (address value number : ℕ) → Option ℕ → Row
  low : (part number : ℕ) → Option ℕ → Row
  high : (address part number : ℕ) → Option ℕ → Row
  pixel : Inputs → (number : ℕ) → Output → Row

-- each row follows from those above
abbrev Follows : Board → List Row → Type 0
Follows b [] = Unit {0}
Follows b (write a v n w ∷ rows) =
    let o = write_call b.state b.table a v in
    (o.answer.number ≡ n) × (o.answer.state.waiting ≡ w) × Follows (after (Write a v) b) rows
Follows b (low p n w ∷ rows) =
    let r = write_low_call b.state p in (r.number ≡ n) × (r.state.waiting ≡ w) × Follows (after (WriteLow p) b) rows
Follows b (high a p n w ∷ rows) =
    let o = write_high_call b.state b.table a p in
    (o.answer.number ≡ n) × (o.answer.state.waiting ≡ w) × Follows (after (WriteHigh a p) b) rows
Follows b (pixel i n out ∷ rows) =
    let r = pixel_call b.state b.table i in (r.number ≡ n) × (r.output ≡ out) × Follows (after (Pixel i) b) rows

-- an address, horizontal sync, blank, overlay, blink; in an overlay red and blue are on
abbrev inputs : ℕ → Bool → Bool → Bool → Bool → Inputs
inputs address sync blank overlay blink =
    record {
      address = address;
      horizontal = sync;
      vertical = false;
      blank = blank;
      overlay = overlay;
      red = true;
      green = false;
      blue = true;
      blink = blink;
    }

-- 90 and 243 make the word 4954: blink, blue 3, green 5, red 10
abbrev table : List Row
table =
    high 1 243 22 None ∷
    low 7 0 (Some 7) ∷
    low 90 0 (Some 90) ∷
    write 1 8192 21 (Some 90) ∷
    high 64 243 21 (Some 90) ∷
    high 1 243 0 None ∷
    pixel (inputs 1 true true true true) 0 Blank ∷
    pixel (inputs 1 false false false false) 0 Blank ∷
    pixel (inputs 1 false false false true) 0 Blank ∷
    low 1 0 (Some 1) ∷
    pixel (inputs 64 false true false false) 21 (Colour 0 0 0) ∷
    pixel (inputs 1 false false true true) 0 Sync ∷
    write 1 0 0 None ∷
    pixel (inputs 1 false true true false) 0 (Colour 10 5 3) ∷
    pixel (inputs 1 false false false true) 0 (Colour 5 10 12) ∷
    pixel (inputs 0 false false false false) 0 (Overlay true false true) ∷
    pixel (inputs 0 false false false false) 0 Blank ∷
    pixel (inputs 0 false false false false) 0 (Colour 0 0 0) ∷
    []

pub session_example : Follows (board fresh (replicate 64 0)) table
unfolding bit asks ruled write_refusal low_refusal high_refusal read_refusal pixel_refusal write_call write_low_call write_high_call pixel_call
session_example = (
  refl,
  refl,
  (
    refl,
    refl,
    (
      refl,
      refl,
      (
        refl,
        refl,
        (
          refl,
          refl,
          (
            refl,
            refl,
            (
              refl,
              refl,
              (
                refl,
                refl,
                (
                  refl,
                  refl,
                  (refl, refl, (refl, refl, (refl, refl, (refl, refl, (refl, refl, (refl, refl, (refl, refl, (refl, refl, (refl, refl, tt))))))))),
                ),
              ),
            ),
          ),
        ),
      ),
    ),
  ),
)
