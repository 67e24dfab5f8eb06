-- A part of the way through a piece, as the code goes it: some bytes are used up, and what the others will come to is the same. Assumes nothing.
use Rattle.std.specs.Prelude.{ℕ, ◌+◌, ◌≤◌, ◌≡◌, Bool, true, false, cond, List, [], eqb, length, take, drop}
use Rattle.numbers.specs.declared.Refusal.{Refusal}
use Rattle.numbers.specs.Refusal.{number_of}
use Rattle.vram.specs.declared.Vram.{Vram}
use Rattle.vram.specs.Board.{Board}
use Rattle.vram.specs.Step.{given_of}
use Rattle.std.specs.Prelude.{Option, Result}
use Rattle.std.specs.Prelude.Option.{None, Some}
use Rattle.std.specs.Prelude.Result.{Ok, Err}
use Rattle.list.specs.Tags.{len_of}
use Rattle.list.specs.Fields.{tag, whole, field_of}
use Rattle.list.specs.Waits.{waits}
use Rattle.pieces.specs.declared.Pieces.{Pieces}
use Rattle.pieces.specs.declared.field.Met.{Met as Ran}
use Rattle.pieces.specs.Line.{Line, line, port, limit, met, piece}
use Rattle.pieces.specs.Pieces.{pad, unpack}
use Rattle.pieces.specs.PackLaws.{Sound}

-- nothing is held: the next field begins, or the list is refused there
abbrev pub standing : ℕ → ℕ → Option ℕ → Line
standing number at left = line [] at number (cond (eqb number 0) left None)

-- what a field leaves, of the state and the open mask load before it: the state, the open mask load, how many bytes the field took, and its number; or the bytes wait for more
pub record Met : Type 0 where
  pub state : Vram
  pub left : Option ℕ
  pub size : ℕ
  pub number : ℕ
  pub waits : Bool

abbrev pub met_by : Vram → Option ℕ → Result (Option Ran) Refusal → Met
met_by state left (Ok None) = record { state = state; left = left; size = 0; number = 0; waits = true }
met_by state left (Ok (Some ran)) = record { state = ran.state; left = ran.left; size = ran.size; number = 0; waits = false }
met_by state left (Err refusal) = record { state = state; left = left; size = 0; number = number_of refusal; waits = false }

-- the field at the head of some bytes: it waits and nothing moves, or it is run, or it is refused and takes no bytes
pub record Meets (at : ℕ) (s : List ℕ) (left : Option ℕ) (b : Board) (number size : ℕ) (after : Option ℕ) (b' : Board) : Type 0 where
  pub given : given_of b' ≡ 0
  pub inside : size ≤ length s
  pub most : size ≤ 13
  pub waiting : waits s ≡ true → (number ≡ 0) × (size ≡ 0) × (after ≡ left) × (b' ≡ b)
  pub run : waits s ≡ false → number ≡ 0 → (whole s ≡ true) × (size ≡ 3 + len_of (tag s))
  pub settled : waits s ≡ false → met at (field_of s) left b ≡ port (standing number (at + size) after) b'

-- thirteen bytes that hold n of one field
pub record Held (h : List ℕ) (n at : ℕ) : Type 0 where
  pub few : n ≤ 13
  pub spare : pad 13 (take n h) ≡ h
  pub size : length (take n h) ≡ n
  pub fits : at + n ≤ limit

-- n bytes
pub record Along (p : Pieces) (b : Board) (s : List ℕ) (q : Pieces) (b' : Board) (n : ℕ) : Type 0 where
  pub sound : Sound q
  pub given : given_of b' ≡ 0
  pub inside : n ≤ length s
  pub same : piece (port (unpack q) b') (drop n s) ≡ piece (port (unpack p) b) s
