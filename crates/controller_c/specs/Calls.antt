-- What each export answers, for every input: the call below it on the state taken, or 1 and the state as it came where no `Controller` can
-- be so. Assumes nothing.
use Rattle.std.specs.Prelude.{◌≡◌, cond, Result}
use Rattle.std.specs.Prelude.Result.{Ok, Err}
use Rattle.numbers.specs.declared.Refusal.{Refusal}
use Rattle.numbers.specs.Refusal.{number_of}
use Rattle.controller.specs.declared.Address.{Address}
use Rattle.controller.specs.declared.Controller.{Controller}
use Rattle.controller.specs.Calls.{Controlled as Below, Fetched as FetchedBelow, Call, does, fetch_call, controlled_by}
use Rattle.controller_c.specs.declared.Held.{Held}
use Rattle.controller_c.specs.declared.Controlled.{Controlled}
use Rattle.controller_c.specs.declared.Fetched.{Fetched}
use Rattle.controller_c.specs.State.{lawful, taken, handed}

abbrev pub handed_on : Below → Controlled
handed_on r = record { state = handed r.state; number = r.number }

abbrev pub held_excluded : Held → Controlled
held_excluded h = record { state = h; number = 1 }

unfoldable pub held_call : Call → Held → Controlled
held_call c h = cond (lawful h) (handed_on (does c (taken h))) (held_excluded h)

-- whatever may come of the call below, as `made` says of its answer, is what call c owes
abbrev pub Owes : Call → Controller → (Result Controller Refusal → Type 0) → Type 0
Owes c s made = (answer : Result Controller Refusal) → made answer → controlled_by s answer ≡ does c s

-- what C gets of an answer: the state left, or the state as it came and the number of the refusal
abbrev pub answered : Held → Result Controller Refusal → Controlled
answered h (Ok s) = record { state = handed s; number = 0 }
answered h (Err why) = record { state = h; number = number_of why }

-- ---- a fetch

abbrev pub handed_on_fetch : FetchedBelow → Fetched
handed_on_fetch r = record { state = handed r.state; number = r.number; bank = r.bank; row = r.row; column = r.column }

abbrev pub fetch_excluded : Held → Fetched
fetch_excluded h = record { state = h; number = 1; bank = 0; row = 0; column = 0 }

unfoldable pub held_fetch : Held → Fetched
held_fetch h = cond (lawful h) (handed_on_fetch (fetch_call (taken h))) (fetch_excluded h)

abbrev pub answered_fetch : Held → Result (Controller × Address) Refusal → Fetched
answered_fetch h (Ok s) = record { state = handed s.0; number = 0; bank = s.1.bank; row = s.1.row; column = s.1.column }
answered_fetch h (Err why) = record { state = h; number = number_of why; bank = 0; row = 0; column = 0 }
