-- What a pixel asks for: the four cases in their order, what blink inverts, and that no step is over 15. Assumes nothing.
use Rattle.std.specs.Prelude.{◌≡◌, refl, Bool, true, false, not, ◌&&◌, ◌||◌, cond, ℕ, ◌-◌, ◌/◌, ◌%◌, ◌<◌}
use Rattle.std.proofs.Common.{sym, ap, ◌∙◌, arith, mod-lt, le-leb}
use Rattle.words.specs.Bit.{bit}
use Rattle.words.specs.BitLaws.{bit_mod, bit_not}
use Rattle.colours.specs.declared.Inputs.{Inputs}
use Rattle.colours.specs.declared.Output.TheVariants.{Sync, Blank, Overlay}
use Rattle.colours.specs.Output.{blinked, colour_of, both_syncs, one_sync, asks}
use Rattle.colours.specs.State.{steps_ok}

-- ---- the four cases, in their order

module _ (i : Inputs) (word : ℕ) where
  pub asks_sync : one_sync i ≡ true → asks i word ≡ Sync
  unfolding asks
  asks_sync s = rw s

  module _ (s : one_sync i ≡ false) where
    pub asks_blank : (both_syncs i || i.blank) ≡ true → asks i word ≡ Blank
    unfolding asks
    asks_blank b = rw (s, b)

    module _ (b : (both_syncs i || i.blank) ≡ false) where
      pub asks_overlay : i.overlay ≡ true → asks i word ≡ Overlay i.red i.green i.blue
      unfolding asks
      asks_overlay o = rw (s, b, o)

      pub asks_colour : i.overlay ≡ false → asks i word ≡ colour_of (blinked i.blink word)
      unfolding asks
      asks_colour o = rw (s, b, o)

-- ---- blink

module _ (blink : Bool) (word : ℕ) where
  pub blink_on : (blink && bit word 12) ≡ true → blinked blink word ≡ 4095 - word % 4096
  blink_on e = rw e

  pub blink_off : (blink && bit word 12) ≡ false → blinked blink word ≡ word % 4096
  blink_off e = rw e

  -- blink together with the blink bit: each of the twelve colour bits is inverted
  pub blink_inverts : blink ≡ true → bit word 12 ≡ true → (b : ℕ) → b < 12 → bit (blinked blink word) b ≡ not (bit word b)
  blink_inverts p q b h =
      rw (p, q) (bit_not 12 (word % 4096) b (mod-lt word (omega arith)) h ∙ ap not (bit_mod word 12 b h))

  -- unless both are so: each is as it was
  pub blink_alone : (blink && bit word 12) ≡ false → (b : ℕ) → b < 12 → bit (blinked blink word) b ≡ bit word b
  blink_alone p b h = ap (λ (n : ℕ). bit n b) (blink_off p) ∙ bit_mod word 12 b h

-- inputs with another blink
abbrev pub with_blink : Inputs → Bool → Inputs
with_blink i blink =
    record {
      address = i.address;
      horizontal = i.horizontal;
      vertical = i.vertical;
      blank = i.blank;
      overlay = i.overlay;
      red = i.red;
      green = i.green;
      blue = i.blue;
      blink = blink;
    }

-- no sync, no blank and no overlay
abbrev pub shows_colour : Inputs → Bool
shows_colour i = not (one_sync i || both_syncs i || i.blank || i.overlay)

-- blink touches nothing else: where no colour is asked for, or its blink bit is not set, it makes no difference
pub blink_only : (i : Inputs) (blink : Bool) (word : ℕ) → (shows_colour i && bit word 12) ≡ false
    → asks (with_blink i blink) word ≡ asks i word
unfolding asks
blink_only i blink word e = go (one_sync i) (both_syncs i) i.blank i.overlay e
  where
    same : (p : Bool) → bit word 12 ≡ false → blinked p word ≡ word % 4096
    same true q = rw q
    same false q = refl

    go : (s b k o : Bool) → (not (s || b || k || o) && bit word 12) ≡ false
        → cond s Sync (cond (b || k) Blank (cond o (Overlay i.red i.green i.blue) (colour_of (blinked blink word))))
        ≡ cond s Sync (cond (b || k) Blank (cond o (Overlay i.red i.green i.blue) (colour_of (blinked i.blink word))))
    go true b k o e = refl
    go false true k o e = refl
    go false false true o e = refl
    go false false false true e = refl
    go false false false false e = ap colour_of (same blink e ∙ sym (same i.blink e))

-- ---- no step is over 15

colour_ok : (bits : ℕ) → steps_ok (colour_of bits) ≡ true
colour_ok bits =
    rw (le-leb (bits % 16) 15 (omega arith), le-leb (bits / 16 % 16) 15 (omega arith), le-leb (bits / 256 % 16) 15 (omega arith))

pub asks_ok : (i : Inputs) (word : ℕ) → steps_ok (asks i word) ≡ true
unfolding asks
asks_ok i word = go (one_sync i) (both_syncs i || i.blank) i.overlay
  where
    go : (s b o : Bool)
        → steps_ok (cond s Sync (cond b Blank (cond o (Overlay i.red i.green i.blue) (colour_of (blinked i.blink word)))))
        ≡ true
    go true b o = refl
    go false true o = refl
    go false false true = refl
    go false false false = colour_ok (blinked i.blink word)
