-- Every call with its arguments, what refuses it, and what it answers and leaves, for every input: change request M-100. A refusal
-- answers zeros besides and changes nothing. Assumes nothing.
use Rattle.std.specs.Prelude.{ℕ, Bool, true, not, ◌&&◌, ◌||◌, ℤ, ◌==◌, nat_le, nat_lt, Result}
use Rattle.numbers.specs.declared.Refusal.{Refusal}
use Rattle.numbers.specs.Refusal.{given_back, left_by}
use Rattle.numbers.specs.Refuse.{refuse, leaves}
use Rattle.controller.specs.declared.Address.{Address}
use Rattle.controller.specs.declared.Controller.{Controller}
use Rattle.controller.specs.State.{with_top, with_mode, overrides, update_of, ruled}
use Rattle.controller.specs.Address.{reaches, panned, bank_of, row_of, column_of, address_of}
use Rattle.controller.specs.Effect.{offset_set, video_set, advanced, refreshed, framed, stepped}

pub data Call : Type 0 where
  SetTopOfFrame : (address : ℕ) → Call
  Pan : (words : ℤ) → Call
  SetOffset : (offset : ℕ) → Call
  SetMode : (cycles page update : ℕ) → Call
  Video : (on : ℕ) → Call
  HorizontalSync : Call
  VerticalSync : Call
  Fetch : Call

-- ---- what refuses a call

-- cycles 0 to 3, an update mode 0 to 2, and page mode not together with interleaved update
abbrev pub mode_allowed : ℕ → ℕ → ℕ → Bool
mode_allowed cycles page update = (nat_le cycles 3 && nat_le update 2) && (page == 0 || not (update == 2))

-- the call's own test: settings in range, page not together with interleaved, a word only while video is on and not in override
unfoldable pub allows : Call → Controller → Bool
allows (SetTopOfFrame address) s = nat_lt address 262144
allows (Pan words) s = reaches words
allows (SetOffset offset) s = nat_le offset 255
allows (SetMode cycles page update) s = mode_allowed cycles page update
allows (Video on) s = true
allows HorizontalSync s = true
allows VerticalSync s = true
allows Fetch s = s.video && not (overrides s.update)

-- 16 setting out of range or the forbidden pair, 17 video off or override
unfoldable pub against : Call → ℕ
against (SetTopOfFrame address) = 16
against (Pan words) = 16
against (SetOffset offset) = 16
against (SetMode cycles page update) = 16
against (Video on) = 0
against HorizontalSync = 0
against VerticalSync = 0
against Fetch = 17

-- 1 a state the rules exclude; then the number where the call's own test fails
unfoldable pub refusal : Controller → Bool → ℕ → ℕ
refusal s holds number = refuse (ruled s) 1 (refuse holds number 0)

abbrev pub number : Call → Controller → ℕ
number c s = refusal s (allows c s) (against c)

-- ---- what a call does where nothing is refused

unfoldable pub effect : Call → Controller → Controller
effect (SetTopOfFrame address) s = with_top s address
effect (Pan words) s = with_top s (panned s.top words)
effect (SetOffset offset) s = offset_set s offset
effect (SetMode cycles page update) s = with_mode s cycles (not (page == 0)) (update_of update)
effect (Video on) s = video_set s (not (on == 0))
effect HorizontalSync s = refreshed (advanced s)
effect VerticalSync s = framed s
effect Fetch s = stepped s

-- the state after a call, refused or not
abbrev pub after : Call → Controller → Controller
after c s = leaves (number c s) s (effect c s)

-- ---- the whole answer

-- the state after a call, and the number given back
pub record Controlled : Type 0 where
  pub state : Controller
  pub number : ℕ

-- the state after a fetch, the number given back, and the address of the word fetched
pub record Fetched : Type 0 where
  pub state : Controller
  pub number : ℕ
  pub bank : ℕ
  pub row : ℕ
  pub column : ℕ

abbrev pub controlled : ℕ → Controller → Controlled
controlled n s = record { state = s; number = n }

abbrev pub does : Call → Controller → Controlled
does c s = controlled (number c s) (after c s)

-- a fetch answers the address before its step
abbrev pub fetched : ℕ → Controller → ℕ → Fetched
fetched n s address = record { state = s; number = n; bank = bank_of address; row = row_of address; column = column_of address }

abbrev pub fetch_call : Controller → Fetched
fetch_call s = fetched (number Fetch s) (after Fetch s) (leaves (number Fetch s) 0 s.counter)

-- ---- the same of what the code answers: a refusal leaves the state as it was, and has no address

abbrev pub controlled_by : Controller → Result Controller Refusal → Controlled
controlled_by before answer = controlled (given_back answer) (left_by before answer)

abbrev pub fetched_by : Controller → Result (Controller × Address) Refusal → Fetched
fetched_by before answer =
    let left = left_by (before, address_of 0) answer in
    record { state = left.0; number = given_back answer; bank = left.1.bank; row = left.1.row; column = left.1.column }
