-- What an access that is not refused keeps. Assumes nothing.
use Rattle.std.specs.Prelude.{◌≡◌, ℕ, List, length, ◌==◌, refl}
use Rattle.std.proofs.Common.{arith}
use Rattle.palette.specs.declared.Palette.{Palette}
use Rattle.palette.specs.Table.{six}
use Rattle.palette.specs.State.{with_register, moved}
use Rattle.palette.specs.Access.{addressed, taken, registered, at_blue, coloured, after_write, table_after_write, after_read}
use Rattle.palette.specs.TableLaws.{store_length}
use Rattle.palette.specs.StateLaws.{Ruled, cond_holds, six_small, moved_ruled, with_register_ruled}

module _ (p : Palette) (r : Ruled p) where
  -- ---- the state's rule

  pub addressed_ruled : (d : ℕ) → Ruled (addressed p d)
  addressed_ruled d = record { phase = omega arith; red = r.red; green = r.green; blue = r.blue }

  pub taken_ruled : (t : List ℕ) → Ruled (taken p t)
  taken_ruled t = record { phase = r.phase; red = six_small _; green = six_small _; blue = six_small _ }

  registered_ruled : (d : ℕ) → Ruled (registered p d)
  registered_ruled d = moved_ruled (with_register p (six d)) (with_register_ruled p r (six d) (six_small d))

  pub coloured_ruled : (d : ℕ) → Ruled (coloured p d)
  coloured_ruled d =
      let q = registered_ruled d in
      cond_holds Ruled (at_blue p) (record { phase = q.phase; red = q.red; green = q.green; blue = q.blue }) q

pub after_write_ruled : (p : Palette) → Ruled p → (t : List ℕ) (s d : ℕ) → Ruled (after_write p t s d)
unfolding after_write
after_write_ruled p r t s d =
    cond_holds Ruled (s == 0) (addressed_ruled p r d)
    (cond_holds Ruled (s == 1) (coloured_ruled p r d)
    (cond_holds Ruled (s == 2) (record { phase = r.phase; red = r.red; green = r.green; blue = r.blue })
    (taken_ruled (addressed p d) (addressed_ruled p r d) t)))

pub after_read_ruled : (p : Palette) → Ruled p → (t : List ℕ) (s : ℕ) → Ruled (after_read p t s)
unfolding after_read
after_read_ruled p r t s =
    let m = moved_ruled p r in
    cond_holds Ruled (s == 1) (cond_holds Ruled (at_blue p) (taken_ruled (moved p) m t) m) r

-- ---- the table's length

pub table_after_write_length : (p : Palette) (t : List ℕ) (s d : ℕ) → length (table_after_write p t s d) ≡ length t
unfolding table_after_write
table_after_write_length p t s d =
    cond_holds (λ (l : List ℕ). length l ≡ length t) (s == 1)
    (cond_holds (λ (l : List ℕ). length l ≡ length t) (at_blue p) (store_length t p.address _) refl)
    refl
