-- The calls that take the video RAM's state from C and hand it back, one after the other; a list in pieces counts as one of them, all its
-- pieces and the last call with no other call between. Assumes nothing.
use Rattle.std.specs.Prelude.{ℕ, ◌≡◌, List, [], ◌∷◌}
use Rattle.palette.specs.declared.Palette.{Palette}
use Rattle.registers.specs.declared.Registers.{Registers}
use Rattle.registers.specs.Lists.{list_call}
use Rattle.marks_c.specs.Calls.{marked_call}
use Rattle.pencil_c.specs.Calls.{pencil_call, pencil_marked_call}
use Rattle.pieces_c.specs.Cutting.{cut_call}
use Rattle.host.specs.Calls.{clock_call, panel_call_by}

-- each with all that it is given and lent beside the state: of what the call before left nothing is asked
pub data Call : Type 0 where
  list : (memory serial bytes : List ℕ) → Call
  marked : (memory serial marks bytes : List ℕ) → Call
  pencil : (memory serial bytes : List ℕ) → Call
  pencil_marked : (memory serial marks bytes : List ℕ) → Call
  pieces : (memory serial : List ℕ) (cutting : List (List ℕ)) → Call
  clock : (serial : List ℕ) → Call
  panel : (parts : ℕ → ℕ) (serial : List ℕ) (palette : Palette) (table : List ℕ) (clocks blank : ℕ) (out : List ℕ) → Call

-- the state of its answer, refused or not
abbrev pub after : Call → Registers → Registers
after (list memory serial bytes) s = (list_call s memory serial bytes).answer.state
after (marked memory serial marks bytes) s = (marked_call s memory serial marks bytes).answer.state
after (pencil memory serial bytes) s = (pencil_call s memory serial bytes).answer.state
after (pencil_marked memory serial marks bytes) s = (pencil_marked_call s memory serial marks bytes).answer.state
after (pieces memory serial cutting) s = (cut_call cutting s memory serial).answer.state
after (clock serial) s = (clock_call s serial).state
after (panel parts serial palette table clocks blank out) s = (panel_call_by parts s serial palette table clocks blank out).answer.state

-- each takes the state of the answer before
abbrev pub session : List Call → Registers → Registers
session [] s = s
session (c ∷ cs) s = session cs (after c s)

-- a list in pieces was accepted at its last call; the other calls may be refused
abbrev pub Settled : Call → Registers → Type 0
Settled (list memory serial bytes) s = Unit
Settled (marked memory serial marks bytes) s = Unit
Settled (pencil memory serial bytes) s = Unit
Settled (pencil_marked memory serial marks bytes) s = Unit
Settled (pieces memory serial cutting) s = (cut_call cutting s memory serial).answer.number ≡ 0
Settled (clock serial) s = Unit
Settled (panel parts serial palette table clocks blank out) s = Unit

-- each of a session's
abbrev pub AllSettled : List Call → Registers → Type 0
AllSettled [] s = Unit
AllSettled (c ∷ cs) s = Settled c s × AllSettled cs (after c s)
