-- The open mask load of a list: its last mask load, where no reset refresh comes after it. Change request M-111. Assumes nothing.
use Rattle.std.specs.Prelude.{ℕ, ◌+◌, Bool, true, false, cond, List, [], ◌∷◌, eqb}
use Rattle.vram.specs.Kinds.{tag_of}
use Rattle.std.specs.Prelude.{Option}
use Rattle.std.specs.Prelude.Option.{None, Some}
use Rattle.list.specs.Fields.{Field, Reads, Unreadable, size_of, fields}

-- whether one is open
abbrev pub is_open : Option ℕ → Bool
is_open None = false
is_open (Some place) = true

-- after a cycle at an offset, by its tag: a mask load (4) is open from there on, a reset refresh (5) leaves none open
unfoldable pub opens : ℕ → ℕ → Option ℕ → Option ℕ
opens tag at left = cond (eqb tag 4) (Some at) (cond (eqb tag 5) None left)

-- after a field
unfoldable pub open_by : ℕ → Field → Option ℕ → Option ℕ
open_by at (Reads c n) left = opens (tag_of c) at left
open_by at Unreadable left = left

-- after fields in order, the first at an offset
unfoldable pub open_after : ℕ → List Field → Option ℕ → Option ℕ
open_after at [] left = left
open_after at (f ∷ fs) left = open_after (at + size_of f) fs (open_by at f left)

-- of a list: none is open where it begins, whatever the state is
abbrev pub open_of : List ℕ → Option ℕ
open_of list = open_after 0 (fields list) None
