-- How bytes split into fields of any kind, one after the other. Assumes nothing.
use Rattle.std.specs.Prelude.{ℕ, zero, suc, ◌+◌, Bool, ◌&&◌, cond, List, [], ◌∷◌, eqb, leb, length}
use Rattle.list.specs.Tags.{word}

-- the field at the head of some bytes says this length, and is not cut short
unfoldable pub sized : List ℕ → ℕ → Bool
sized s n = leb (3 + n) (length s) && eqb (word s 1) n

-- `read` makes a field of the bytes that begin with it, `good` says whether it can be read, and `more` how many bytes follow its tag. Those
-- after k bytes are passed over; nothing is read after a field that cannot be
unfoldable pub split : {A : Type 0} → (List ℕ → A) → (List ℕ → Bool) → (ℕ → ℕ) → ℕ → List ℕ → List A
split read good more k [] = []
split read good more zero (b ∷ s) = read (b ∷ s) ∷ cond (good (b ∷ s)) (split read good more (more b) s) []
split read good more (suc k) (b ∷ s) = split read good more k s
