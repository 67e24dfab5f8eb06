-- An address write drops an unfinished colour: with three colours after it, it sets exactly its entry. What a write of select 3 leaves.
-- Assumes nothing.
use Rattle.std.specs.Prelude.{◌≡◌, ℕ, ◌+◌, ◌%◌, ◌<◌, true, ◌≢◌, List, length, refl}
use Rattle.std.proofs.Common.{ap, ◌∙◌, arith}
use Rattle.palette.specs.declared.Palette.{Palette}
use Rattle.palette.specs.Table.{colour, sixes, entry, store}
use Rattle.palette.specs.State.{with_colours, ruled, advanced}
use Rattle.palette.specs.Access.{addressed, coloured, coloured_table, after_write, table_after_write}
use Rattle.palette.specs.Calls.{Outcome, accessed, outcome, write_call}
use Rattle.palette.specs.TableLaws.{store_length, store_here, store_other}
use Rattle.palette.specs.StateLaws.{Ruled, ruled_parts, ruled_whole}
use Rattle.palette.proofs.AccessLaws.{addressed_ruled, coloured_ruled}
use Rattle.palette.proofs.CallLaws.{write_accepted}

-- a write that is handed what another left
abbrev pub next : Outcome → ℕ → ℕ → Outcome
next o s d = write_call o.answer.state o.table s d

-- select 0 = a, then the colours r, g, b
abbrev pub colour_writes : Palette → List ℕ → ℕ → ℕ → ℕ → ℕ → Outcome
colour_writes p t a r g b = next (next (next (write_call p t 0 a) 1 r) 1 g) 1 b

-- entry a is (r mod 64, g mod 64, b mod 64), every other entry is as it was, A is a + 1, from 255 to 0, and the phase 0
pub record EntrySet (t : List ℕ) (a r g b : ℕ) (o : Outcome) : Type 0 where
  pub done : o.answer.number ≡ 0
  pub here : entry o.table a ≡ colour (r % 64) (g % 64) (b % 64)
  pub others : (e : ℕ) → e ≢ a → entry o.table e ≡ entry t e
  pub bytes : length o.table ≡ length t
  pub address : o.answer.state.address ≡ (a + 1) % 256
  pub phase : o.answer.state.phase ≡ 0

module _ (p : Palette) (t : List ℕ) (rule : ruled p ≡ true) (bytes : length t ≡ 768) where
  pub address_write : (a : ℕ) → write_call p t 0 a ≡ outcome (accessed (addressed p a) 0 0) t
  unfolding after_write table_after_write
  address_write a = write_accepted p t rule bytes 0 a (omega arith)

  -- after a write of select 0 the phase is 0, whatever came before
  pub address_write_resets : (a : ℕ) → (write_call p t 0 a).answer.state.phase ≡ 0
  address_write_resets a = rw (address_write a)

  -- a write of select 3 takes the low six bits of entry a to the registers; A is a + 1, from 255 to 0, the phase 0, and nothing else changes
  pub entry_taken : (a : ℕ) → write_call p t 3 a
      ≡ outcome
      (accessed
      (record {
        address = (a + 1) % 256;
        phase = 0;
        red = (entry t a).red % 64;
        green = (entry t a).green % 64;
        blue = (entry t a).blue % 64;
        mask = p.mask;
      })
      0 0)
      t
  unfolding after_write table_after_write
  entry_taken a = write_accepted p t rule bytes 3 a (omega arith)

  colour_write : (d : ℕ) → write_call p t 1 d ≡ outcome (accessed (coloured p d) 0 0) (coloured_table p t d)
  unfolding after_write table_after_write
  colour_write d = write_accepted p t rule bytes 1 d (omega arith)

-- ---- the three writes of a colour, after an address write, one by one

-- with red written, and with green
abbrev pub to_green : Palette → ℕ → ℕ → Palette
to_green p a r = coloured (addressed p a) r

abbrev pub to_blue : Palette → ℕ → ℕ → ℕ → Palette
to_blue p a r g = coloured (to_green p a r) g

module _ (p : Palette) (t : List ℕ) (a r g b : ℕ) (rule : Ruled p) (bytes : length t ≡ 768) where
  pub red_write : write_call (addressed p a) t 1 r ≡ outcome (accessed (to_green p a r) 0 0) t
  red_write = colour_write (addressed p a) t (ruled_whole (addressed p a) (addressed_ruled p rule a)) bytes r

  to_green_ruled : Ruled (to_green p a r)
  to_green_ruled = coloured_ruled (addressed p a) (addressed_ruled p rule a) r

  pub green_write : write_call (to_green p a r) t 1 g ≡ outcome (accessed (to_blue p a r g) 0 0) t
  green_write = colour_write (to_green p a r) t (ruled_whole (to_green p a r) to_green_ruled) bytes g

  to_blue_ruled : Ruled (to_blue p a r g)
  to_blue_ruled = coloured_ruled (to_green p a r) to_green_ruled g

  pub blue_write : write_call (to_blue p a r g) t 1 b
      ≡ outcome (accessed (with_colours (advanced (addressed p a)) (sixes (colour r g b))) 0 0) (store t a (sixes (colour r g b)))
  blue_write = colour_write (to_blue p a r g) t (ruled_whole (to_blue p a r g) to_blue_ruled) bytes b

module _ (p : Palette) (t : List ℕ) (a r g b : ℕ) (rule : ruled p ≡ true) (bytes : length t ≡ 768) where
  -- the state, and the whole table
  pub colour_writes_is : colour_writes p t a r g b
      ≡ outcome (accessed (with_colours (advanced (addressed p a)) (sixes (colour r g b))) 0 0) (store t a (sixes (colour r g b)))
  colour_writes_is =
      let q = ruled_parts p rule in
      ap (λ (o : Outcome). next (next (next o 1 r) 1 g) 1 b) (address_write p t rule bytes a)
      ∙ ap (λ (o : Outcome). next (next o 1 g) 1 b) (red_write p t a r g b q bytes)
      ∙ ap (λ (o : Outcome). next o 1 b) (green_write p t a r g b q bytes)
      ∙ blue_write p t a r g b q bytes

  pub entry_set : a < 256 → EntrySet t a r g b (colour_writes p t a r g b)
  entry_set h =
      rw colour_writes_is
      (record {
        done = refl;
        here = store_here t a (sixes (colour r g b)) (omega arith);
        others = store_other t a (sixes (colour r g b));
        bytes = store_length t a (sixes (colour r g b));
        address = refl;
        phase = refl;
      })
