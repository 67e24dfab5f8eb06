-- A point of a page's running, between two of its cycles: change request M-103. Assumes nothing.
use Rattle.std.specs.Prelude.{ℕ, ◌<◌, ◌≡◌, Bool, true, false, ◌&&◌, ◌||◌, List, [], ◌∷◌, ◌++◌, length, get_or, take}
use Rattle.words.specs.Bit.{bit}
use Rattle.vram.specs.declared.Cycle.{Cycle}
use Rattle.planner.specs.Fill.{Fill, inside, plan}
use Rattle.planner.proofs.NeverHalf.{Either}
use Rattle.page.specs.Calls.{plans}
use Rattle.page.proofs.PagePaints.{painted_all}

-- after the cycles `ran` of some fills, from memory m: the rectangles before the current one are painted whole, those after it not at all,
-- and each word is as those before it left it or as the current one paints it, never between
pub record Stage (fs : List Fill) (ran : List Cycle) (m now : List ℕ) : Type 0 where
  pub before : List Fill
  pub current : Fill
  pub after : List Fill
  pub parts : fs ≡ before ++ (current ∷ after)
  -- all cycles of those before it have run, some of its own, and none of those after it
  pub some : ℕ
  pub cycles : ran ≡ plans before ++ take some (plan current)
  pub either : Either current (painted_all before m) now

-- ---- bit by bit

-- a rectangle paints bit i of word a: the word lies in it, and its mask has the bit
abbrev pub paints_bit : Fill → ℕ → ℕ → Bool
paints_bit f a i = inside f a && bit f.mask i

-- one of some rectangles does
unfoldable pub painted_by : List Fill → ℕ → ℕ → Bool
painted_by [] a i = false
painted_by (f ∷ fs) a i = paints_bit f a i || painted_by fs a i

-- each bit of a rectangle that no later one paints is the rectangle's colour's
abbrev pub Stands : Fill → List Fill → List ℕ → Type 0
Stands mark later now =
    (a i : ℕ) → a < length now → i < 16 → paints_bit mark a i ≡ true → painted_by later a i ≡ false → bit (get_or now a 0) i ≡ bit mark.colour i
