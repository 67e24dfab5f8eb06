-- What a fill comes to, before a byte is written. Assumes nothing.
use Rattle.std.specs.Prelude.{ℕ, ◌+◌, ◌-◌, ◌*◌, Bool, ◌||◌, cond, eqb, leb, Result}
use Rattle.std.specs.Prelude.Result.{Ok, Err}
use Rattle.numbers.specs.declared.Refusal.{Refusal}
use Rattle.numbers.specs.Refusal.{number_of}
use Rattle.planner.specs.declared.Filled.{Filled}
use Rattle.planner.specs.declared.Shape as code
use Rattle.planner.specs.Fill.{Fill, W, B}
use Rattle.planner.specs.Calls.{asked_refusal}

-- refused with a number; nothing to paint; so many word writes; or a colour load and so many block writes
pub data Shape : Type 0 where
  Refused : ℕ → Shape
  Nothing : Shape
  Words : ℕ → Shape
  Blocks : ℕ → Shape

-- as the code has it, where nothing is refused
abbrev pub made : code.Shape → Shape
made code.TheVariants.Nothing = Nothing
made (code.TheVariants.Words words) = Words words
made (code.TheVariants.Blocks blocks) = Blocks blocks

abbrev pub shaped_by : Result code.Shape Refusal → Shape
shaped_by (Ok shape) = made shape
shaped_by (Err refusal) = Refused (number_of refusal)

-- how many writes
abbrev pub shape_size : Shape → ℕ
shape_size (Refused number) = 0
shape_size Nothing = 0
shape_size (Words words) = words
shape_size (Blocks blocks) = blocks

-- there is nothing to paint: M is 0, or there is no row or no column
abbrev pub nothing : Fill → Bool
nothing f = (eqb f.mask 0 || eqb (f.end_row - f.first_row) 0) || eqb (f.end_column - f.first_column) 0

-- 2, 12 or 13; or nothing, W word writes, or a colour load and B block writes
unfoldable pub shape_of : Fill → Shape
shape_of f =
    cond (eqb (asked_refusal f) 0)
    (cond (nothing f) Nothing (cond (leb (W f) (1 + B f)) (Words (W f)) (Blocks (B f))))
    (Refused (asked_refusal f))

-- document 01's number, bytes and cycles of each: a write takes 13 bytes, a colour load 6
unfoldable pub shape_answer : Shape → Filled
shape_answer (Refused number) = record { number = number; bytes = 0; cycles = 0 }
shape_answer Nothing = record { number = 0; bytes = 0; cycles = 0 }
shape_answer (Words words) = record { number = 0; bytes = 13 * words; cycles = words }
shape_answer (Blocks blocks) = record { number = 0; bytes = 6 + 13 * blocks; cycles = 1 + blocks }
