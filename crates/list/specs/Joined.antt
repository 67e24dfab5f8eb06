-- What fields leave together, and a verdict on bytes that stand further on. Assumes nothing.
use Rattle.std.specs.Prelude.{ℕ, ◌+◌, Bool, false, ◌||◌, cond, List, [], ◌∷◌, eqb}
use Rattle.vram.specs.Kinds.{tag_of}
use Rattle.list.specs.Meaning.{Bad}
use Rattle.std.specs.Prelude.{Option}
use Rattle.std.specs.Prelude.Option.{None, Some}
use Rattle.list.specs.Fields.{Field, Reads, Unreadable, size_of}
use Rattle.list.specs.Meaning.{made_by, bad}

-- whether a full transfer has been made, after some fields
unfoldable pub made_by_all : List Field → Bool → Bool
made_by_all [] made = made
made_by_all (f ∷ fs) made = made_by_all fs (made_by f made)

-- how many bytes they take
unfoldable pub sizes : List Field → ℕ
sizes [] = 0
sizes (f ∷ fs) = size_of f + sizes fs

-- the verdict on bytes that stand n further on: the place of a refusal is as much further
unfoldable pub further : ℕ → Bad → Bad
further n v = cond (eqb v.number 0) (bad 0 0) (bad v.number (n + v.place))

-- and an open mask load
abbrev pub further_open : ℕ → Option ℕ → Option ℕ
further_open n None = None
further_open n (Some place) = Some (n + place)

-- a field decides what is open: it is a mask load (tag 4) or a reset refresh (tag 5)
unfoldable pub decides : Field → Bool
decides (Reads c n) = eqb (tag_of c) 4 || eqb (tag_of c) 5
decides Unreadable = false

-- one of some fields does
unfoldable pub decided : List Field → Bool
decided [] = false
decided (f ∷ fs) = decides f || decided fs
