-- No list on the plain engine, accepted or refused, makes a mask persistent that was not. Assumes nothing.
use Rattle.std.specs.Prelude.{◌≡◌, List, ℕ}
use Rattle.std.proofs.Common.{ap, ◌∙◌}
use Rattle.registers.specs.declared.Registers.{Registers}
use Rattle.registers.specs.Lists.{Listed}
use Rattle.registers.specs.ListLaws.{lists_same, list_plain}
use Rattle.marks_c.specs.Calls.{Listed as ListedMarked}
use Rattle.marks_c.specs.CallLaws.{marks_same, marked_plain}
use Rattle.pencil.proofs.EngineLaws.{pencil_effect}
use Rattle.pencil_c.specs.Calls.{pencil_call, pencil_marked_call}

module _ (s : Registers) (e : s.persistent ≡ 0) where
  pub pencil_plain : (m q list : List ℕ) → (pencil_call s m q list).answer.state.persistent ≡ 0
  pencil_plain m q list = ap (λ (o : Listed). o.answer.state.persistent) (lists_same pencil_effect s m q list) ∙ list_plain s e m q list

  pub pencil_marked_plain : (m q marks list : List ℕ) → (pencil_marked_call s m q marks list).answer.state.persistent ≡ 0
  pencil_marked_plain m q marks list =
      ap (λ (o : ListedMarked). o.answer.state.persistent) (marks_same pencil_effect s m q marks list) ∙ marked_plain s e m q marks list
