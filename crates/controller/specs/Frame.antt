-- A frame as a display makes it, and what a fetch answers. Assumes nothing.
use Rattle.std.specs.Prelude.{◌≡◌, ℕ, zero, suc, Bool, true, false, ◌≢◌, List, [], ◌∷◌, ◌++◌, ℤ, ◌==◌}
use Rattle.controller.specs.Address.{bank_of, row_of, column_of}
use Rattle.controller.specs.Calls.{Call, Fetched, SetTopOfFrame, Pan, SetMode, Video, HorizontalSync, VerticalSync, Fetch, mode_allowed}
use Rattle.controller.specs.Session.{times}

-- a line of w words: w fetches, video off, one horizontal sync, video on
abbrev pub line : ℕ → List Call
line w = times w Fetch ++ Video 0 ∷ HorizontalSync ∷ Video 1 ∷ []

abbrev pub lines : ℕ → ℕ → List Call
lines zero w = []
lines (suc l) w = line w ++ lines l w

-- a frame up to word k of line l: a vertical sync, a gap, video on, l lines of w words, k words
abbrev pub frame : List Call → ℕ → ℕ → ℕ → List Call
frame gap w l k = VerticalSync ∷ (gap ++ Video 1 ∷ (lines l w ++ times k Fetch))

-- A gap, from a vertical sync up to video's next change from off to on: horizontal syncs, video off, video on where it is on, and every
-- setting but the Offset's. `Gap video override cs video' override'`: video on, and in override, before it and after it.
pub data Gap : Bool → Bool → List Call → Bool → Bool → Type 0 where
  end : {v o : Bool} → Gap v o [] v o
  sync : {v o v' o' : Bool} {cs : List Call} → Gap v o cs v' o' → Gap v o (HorizontalSync ∷ cs) v' o'
  off : {v o v' o' : Bool} {cs : List Call} → Gap false o cs v' o' → Gap v o (Video 0 ∷ cs) v' o'
  again : {o v' o' : Bool} {cs : List Call} (value : ℕ) → value ≢ 0 → Gap true o cs v' o' → Gap true o (Video value ∷ cs) v' o'
  top : {v o v' o' : Bool} {cs : List Call} (address : ℕ) → Gap v o cs v' o' → Gap v o (SetTopOfFrame address ∷ cs) v' o'
  pan : {v o v' o' : Bool} {cs : List Call} (words : ℤ) → Gap v o cs v' o' → Gap v o (Pan words ∷ cs) v' o'
  mode : {v o v' o' : Bool} {cs : List Call} (cycles page update : ℕ) → mode_allowed cycles page update ≡ true
      → Gap v (update == 1) cs v' o' → Gap v o (SetMode cycles page update ∷ cs) v' o'
  refused : {v o v' o' : Bool} {cs : List Call} (cycles page update : ℕ) → mode_allowed cycles page update ≡ false
      → Gap v o cs v' o' → Gap v o (SetMode cycles page update ∷ cs) v' o'

-- a fetch is done, and answers this address as bank, row and column
pub record Answers (f : Fetched) (address : ℕ) : Type 0 where
  pub done : f.number ≡ 0
  pub bank : f.bank ≡ bank_of address
  pub row : f.row ≡ row_of address
  pub column : f.column ≡ column_of address
