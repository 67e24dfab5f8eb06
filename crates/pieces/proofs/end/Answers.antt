-- `pieces::end` meets its contract. Assumes nothing.
use Rattle.std.proofs.Common.{sym, refl}
use Rattle.numbers.specs.RefusalLaws.{number_not_zero}
use Rattle.vram.specs.Board.{board}
use Rattle.pieces.specs.Calls.{first_number}
use Rattle.pieces.specs.PackLaws.{sound_is}
use Rattle.pieces.specs.CallLaws.{first_zero, end_first, end_done}
use Rattle.pieces.proofs.end.Goals as goal

pub returns-in-Err : goal.returns-in-Err
unfolding first_number
returns-in-Err c = rw c.from.ensures (end_first _ _ _ c.in-Err.ensures.0 (number_not_zero _))

pub at_last-requires : goal.at_last-requires
unfolding first_number
at_last-requires c =
    let a = c.args in
    let n = c.in_default.ensures in
    sound_is _ n.1 (first_zero a.pieces (board a.state a.memory.now a.serial.now) (sym n.0)).0

pub returns : goal.returns
unfolding first_number
returns c = end_done _ _ _ c.in_default.ensures.0 refl _ c.at_last.ensures _ c.fresh-next.ensures
