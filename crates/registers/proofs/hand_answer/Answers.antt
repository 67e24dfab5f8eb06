-- `registers::hand_answer` meets its contract. Assumes nothing.
use Rattle.std.proofs.Common.{ap}
use Rattle.registers.specs.declared.Registers.{Registers}
use Rattle.registers.specs.declared.Ran.{Ran}
use Rattle.registers.proofs.hand_answer.Goals as goal

pub returns : goal.returns
returns c = let a = c.args in ap (λ (s : Registers). record { state = s; number = a.number; place = a.place }) c.hand.ensures
