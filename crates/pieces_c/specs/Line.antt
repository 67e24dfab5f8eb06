-- Where a list stands as C has it, and as `pieces` has it; the answer of a call. Assumes nothing.
use Rattle.std.specs.Prelude.{ℕ, Bool, ◌&&◌, ◌||◌, cond, eqb, leb}
use Rattle.vram.specs.declared.Vram.{Vram}
use Rattle.list.specs.Meaning.{Bad}
use Rattle.std.specs.Prelude.{Option}
use Rattle.std.specs.Prelude.Option.{None, Some}
use Rattle.list.specs.Meaning.{bad}
use Rattle.registers.specs.declared.Registers.{Registers}
use Rattle.registers.specs.State.{handed}
use Rattle.pieces.specs.declared.Pieces.{Pieces as Below}
use Rattle.pieces.specs.Calls.{Taken as BelowTaken}
use Rattle.pieces_c.specs.declared.Pieces.{Pieces}
use Rattle.pieces_c.specs.declared.Taken.{Taken}

-- a line can be so: open is 0 or 1, and there is no offset where no mask load is open
unfoldable pub line_lawful : Pieces → Bool
line_lawful p = leb p.«open» 1 && (eqb p.«open» 1 || eqb p.left 0)

unfoldable pub taken_line : Pieces → Below
taken_line p =
    record { held = p.held; count = p.count; start = p.start; number = p.number; left = cond (eqb p.«open» 0) None (Some p.left) }

-- with its open mask load: 0 none, 1 one
abbrev handed_with : Below → ℕ → ℕ → Pieces
handed_with p is_open left = record { left = left; start = p.start; number = p.number; held = p.held; count = p.count; «open» = is_open }

abbrev pub handed_by : Option ℕ → Below → Pieces
handed_by None p = handed_with p 0 0
handed_by (Some place) p = handed_with p 1 place

unfoldable pub handed_line : Below → Pieces
handed_line p = handed_by p.left p

-- the answer: number, place, and state and line handed back; where no `Vram` or no line can be so, 1 and both as they came
abbrev pub handed_answer : Bad → Vram → Below → Taken
handed_answer v s p = record { state = handed s; pieces = handed_line p; number = v.number; place = v.place }

abbrev pub handed_below_taken : BelowTaken → Taken
handed_below_taken r = handed_answer (bad r.number r.place) r.state r.pieces

abbrev pub excluded_taken : Registers → Pieces → Taken
excluded_taken s p = record { state = s; pieces = p; number = 1; place = 0 }
