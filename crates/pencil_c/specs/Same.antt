-- Each export of the plain engine answers and leaves what the export of the fast one does: change request M-105. Assumes nothing.
use Rattle.std.specs.Prelude.{◌≡◌, List, ℕ}
use Rattle.registers.specs.declared.Registers.{Registers}
use Rattle.registers.specs.Lists.{list_call}
use Rattle.registers.specs.ListLaws.{lists_same}
use Rattle.marks_c.specs.Calls.{marked_call}
use Rattle.marks_c.specs.CallLaws.{marks_same}
use Rattle.pencil.proofs.EngineLaws.{pencil_effect}
use Rattle.pencil_c.specs.Calls.{pencil_call, pencil_marked_call}

-- on every state that C can hand over, also one that no `Vram` can be
pub exports_same : (s : Registers) (memory serial marks list : List ℕ)
    → (pencil_call s memory serial list ≡ list_call s memory serial list)
    × (pencil_marked_call s memory serial marks list ≡ marked_call s memory serial marks list)
exports_same s memory serial marks list =
    (lists_same pencil_effect s memory serial list, marks_same pencil_effect s memory serial marks list)
