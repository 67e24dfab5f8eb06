-- The bytes of a field and of a list, as a planner writes them: document 01, "Lists and fills". Assumes nothing.
use Rattle.std.specs.Prelude.{ℕ, ◌/◌, ◌%◌, List, [], ◌∷◌, ◌++◌}
use Rattle.vram.specs.declared.Cycle.{Cycle}
use Rattle.vram.specs.declared.Cycle.TheVariants.{WordWrite, BlockWrite, LoadColour, LoadMask, ResetRefresh, FullTransfer, SplitTransfer, StopPoints}
use Rattle.vram.specs.Kinds.{tag_of}
use Rattle.list.specs.Tags.{len_of}

-- a number of two bytes, high byte first
abbrev pub two : ℕ → List ℕ → List ℕ
two n s = n / 256 ∷ n % 256 ∷ s

-- the body, by the kind of the cycle
unfoldable pub body_of : Cycle → List ℕ
body_of (WordWrite row column word masking mask strobes) = two row (two column (two word (masking ∷ two mask (strobes ∷ []))))
body_of (BlockWrite row column columns masking mask strobes) = two row (two column (two columns (masking ∷ two mask (strobes ∷ []))))
body_of (LoadColour word strobes) = two word (strobes ∷ [])
body_of (LoadMask word strobes) = two word (strobes ∷ [])
body_of ResetRefresh = []
body_of (FullTransfer row half tap) = two row (half ∷ tap ∷ [])
body_of (SplitTransfer row half tap) = two row (half ∷ tap ∷ [])
body_of (StopPoints length) = length ∷ []

-- tag, length, body
unfoldable pub encode : Cycle → List ℕ
encode c = tag_of c ∷ two (len_of (tag_of c)) (body_of c)

unfoldable pub encode_all : List Cycle → List ℕ
encode_all [] = []
encode_all (c ∷ cs) = encode c ++ encode_all cs
