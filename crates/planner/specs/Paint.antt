-- What a fill's list is to do, and from where: demand 3. Assumes nothing.
use Rattle.std.specs.Prelude.{ℕ, suc, ◌*◌, ◌<◌, ◌≤◌, ◌≡◌, true, false, cond, List, [], ◌∷◌, length, take}
use Rattle.words.specs.Bit.{bit}
use Rattle.words.specs.Word.{merged}
use Rattle.vram.specs.declared.Vram.{Vram}
use Rattle.vram.specs.State.{with_colour, with_mask, ruled}
use Rattle.vram.specs.Memory.{Words}
use Rattle.vram.specs.Board.{Board, board}
use Rattle.list.specs.Meaning.{bad, gives, verdict_of, run_call, count_of}
use Rattle.planner.specs.declared.Filled.{Filled}
use Rattle.planner.specs.Fill.{Fill, inside, uses_blocks}
use Rattle.planner.specs.Calls.{Outcome}

-- ---- what the rectangle asks for

-- each word by its number, the first being word `at`
unfoldable pub mapped_at : (ℕ → ℕ → ℕ) → ℕ → List ℕ → List ℕ
mapped_at g at [] = []
mapped_at g at (w ∷ m) = g at w ∷ mapped_at g (suc at) m

-- the rectangle's bits of M equal to the colour's, every other bit as it was (`painted_bit`)
abbrev pub painted : Fill → List ℕ → List ℕ
painted f m = mapped_at (λ a w. cond (inside f a) (merged w f.colour (bit f.mask)) w) 0 m

-- the board afterwards: the colour register holds the colour where blocks were used and is else as it was; mask register, persistence,
-- serial state, stop points and serial register are as they were
abbrev pub after_fill : Fill → Board → Board
after_fill f b =
    board (with_colour b.state (cond (uses_blocks f) f.colour b.state.colour)) (painted f b.memory) b.serial

-- the bytes that a fill has written
abbrev pub list_in : Outcome → List ℕ
list_in o = take o.answer.bytes o.buffer

-- ---- from where

-- mask and colour have 16 bits, as their arguments do
pub record Wide (f : Fill) : Type 0 where
  pub mask : f.mask < 65536
  pub colour : f.colour < 65536

-- a memory of the rows fitted: 512 words to a row, each of 16 bits
pub record Memory (rows : ℕ) (m : List ℕ) : Type 0 where
  pub size : length m ≡ 512 * rows
  pub words : Words m

-- a board that the rules allow, with the rows fitted, not persistent
pub record Start (rows : ℕ) (b : Board) : Type 0 where
  pub rule : ruled b.state ≡ true
  pub memory : Memory rows b.memory
  pub register : length b.serial ≡ 256
  pub plain : b.state.persistent ≡ false

-- ---- a list of bytes that paints, with one serial state, stop points and register: from every memory of the rows fitted, every colour
-- register and every mask register, not persistent, it is accepted and leaves the memory that the rectangle asks for; of what else it
-- leaves nothing is asked

abbrev pub from : Vram → ℕ → ℕ → List ℕ → List ℕ → Board
from s colour mask m r = board (with_mask (with_colour s colour) mask false) m r

pub record Paints (f : Fill) (s : Vram) (r list : List ℕ) : Type 0 where
  pub accepted : (colour mask : ℕ) (m : List ℕ) → colour < 65536 → mask < 65536 → Memory f.rows m
      → (verdict_of list (from s colour mask m r)).number ≡ 0
  pub paints : (colour mask : ℕ) (m : List ℕ) → colour < 65536 → mask < 65536 → Memory f.rows m
      → (run_call list (from s colour mask m r)).after.memory ≡ painted f m

-- ---- demand 3: what is owed of a fill's answer and of the list of bytes that it has written

pub record Demanded (f : Fill) (r : Filled) (list : List ℕ) : Type 0 where
  -- it paints: the list is accepted, and running it leaves what the rectangle asks for
  pub paints : (b : Board) → Start f.rows b → run_call list b ≡ gives (bad 0 0) (after_fill f b)
  -- so it is one of those with which it is compared, for every serial state and stop points that the rules allow
  pub compared : (s : Vram) (serial : List ℕ) → ruled s ≡ true → length serial ≡ 256 → Paints f s serial list
  -- no list that paints has fewer cycles than are answered
  pub shortest : (s : Vram) (serial other : List ℕ) → Paints f s serial other → r.cycles ≤ count_of other
  -- it counts: the cycles answered are the list's fields, and the bytes answered its length
  pub cycles : r.cycles ≡ count_of list
  pub bytes : r.bytes ≡ length list
