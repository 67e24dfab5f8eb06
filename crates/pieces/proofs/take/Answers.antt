-- `pieces::take` meets its contract. Assumes nothing.
use Rattle.std.proofs.Common.{refl, sym, ap, ◌∙◌}
use Rattle.numbers.specs.RefusalLaws.{number_not_zero}
use Rattle.vram.specs.Board.{board}
use Rattle.list.specs.Meaning.{Bad}
use Rattle.pieces.specs.Line.{port}
use Rattle.pieces.specs.Pieces.{unpack}
use Rattle.pieces.specs.Calls.{first_number, gives}
use Rattle.pieces.specs.PackLaws.{sound_is, sound_pack, sound_possible}
use Rattle.pieces.specs.CallLaws.{first_zero, take_first, take_done}
use Rattle.pieces.proofs.KeepLaws.{piece_possible}
use Rattle.pieces.proofs.take.Goals as goal

pub returns-in-Err : goal.returns-in-Err
unfolding first_number
returns-in-Err c = rw c.from.ensures (take_first _ _ _ c.in-Err.ensures.0 (number_not_zero _) _)

pub take_all-moved-requires : goal.take_all-moved-requires
unfolding first_number
take_all-moved-requires c =
    let a = c.args in
    let n = c.in_default.ensures in
    let z = first_zero a.pieces (board a.state a.memory.now a.serial.now) (sym n.0) in
    (sound_is _ n.1 z.0, z.1)

pub so_far-requires : goal.so_far-requires
unfolding first_number
so_far-requires c =
    let a = c.args in
    let b = board a.state a.memory.now a.serial.now in
    let h = sound_possible a.pieces (first_zero a.pieces b (sym c.in_default.ensures.0)).0 in
    rw c.take_all-moved.ensures.0 (sound_pack _ (piece_possible a.piece.now (port (unpack a.pieces) b) h))

pub returns : goal.returns
unfolding first_number
returns c =
    let m = c.take_all-moved in
    ap (λ (v : Bad). gives v m.result.pieces (board m.result.state m.new.memory m.new.serial)) c.so_far.ensures
    ∙ take_done _ _ _ c.in_default.ensures.0 refl _ _ _ m.ensures
