-- What each export answers and leaves: what `linkshoar_list_run` and `linkshoar_list_run_marked` do, by the plain engine. Assumes nothing.
use Rattle.std.specs.Prelude.{ℕ, List}
use Rattle.registers.specs.declared.Registers.{Registers}
use Rattle.registers.specs.Lists.{Listed, list_call_by}
use Rattle.marks_c.specs.Calls.{Listed as ListedMarked, marked_call_by}
use Rattle.pencil.specs.Pencil.{pencil}

abbrev pub pencil_call : Registers → List ℕ → List ℕ → List ℕ → Listed
pencil_call = list_call_by pencil

abbrev pub pencil_marked_call : Registers → List ℕ → List ℕ → List ℕ → List ℕ → ListedMarked
pencil_marked_call = marked_call_by pencil
