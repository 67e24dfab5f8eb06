-- Calls one after the other. Assumes nothing.
use Rattle.std.specs.Prelude.{ℕ, zero, suc, List, [], ◌∷◌}
use Rattle.controller.specs.declared.Controller.{Controller}
use Rattle.controller.specs.Calls.{Call, after}

-- the state after some calls
abbrev pub session : List Call → Controller → Controller
session [] s = s
session (c ∷ cs) s = session cs (after c s)

-- the same call so many times
abbrev pub times : ℕ → Call → List Call
times zero c = []
times (suc n) c = c ∷ times n c
