-- `pencil::cycles::step` meets its contract. Assumes nothing.
use Rattle.vram.specs.Board.{board}
use Rattle.vram.specs.Calls.{answered_by, outcome}
use Rattle.pencil.proofs.Turns.{word_step, block_step, other_step}
use Rattle.pencil.proofs.cycles.step.Goals as goal

pub returns-in-WordWrite : goal.returns-in-WordWrite
returns-in-WordWrite c =
    rw c.in-WordWrite.is (word_step _ _ _ _ _ _ _ _ _ (answered_by c.args.state c.word_write.result) _ c.word_write.ensures)

pub returns-in-BlockWrite : goal.returns-in-BlockWrite
returns-in-BlockWrite c =
    rw c.in-BlockWrite.is (block_step _ _ _ _ _ _ _ _ _ (answered_by c.args.state c.block_write.result) _ c.block_write.ensures)

pub returns-in_default : goal.returns-in_default
returns-in_default c =
    let a = c.args in
    other_step a.cycle (board a.state a.memory.now a.serial.now)
    (outcome (answered_by a.state c.cycle.result) c.cycle.new.memory c.cycle.new.serial) c.cycle.ensures
