-- `pieces_c::linkshoar_pieces_take` meets its contract. Assumes nothing.
use Rattle.std.proofs.Common.{sym}
use Rattle.pieces.specs.Calls.{taken_of}
use Rattle.pieces_c.specs.CallLaws.{take_excluded, take_done}
use Rattle.pieces_c.proofs.linkshoar_pieces_take.Goals as goal

pub returns-in-Ok : goal.returns-in-Ok
returns-in-Ok c =
    let e = c.in-Ok.ensures in
    let t = c.take in
    take_done _ _ _ _ e.0 _ e.1 _ e.2 (taken_of t.result) t.new.memory t.new.serial _ c.from.ensures _ t.ensures

pub returns-in-Err : goal.returns-in-Err
returns-in-Err c = let e = c.in-Err.ensures in rw (c.excluded.ensures, e.1) (sym (take_excluded _ _ _ _ e.0 _))
