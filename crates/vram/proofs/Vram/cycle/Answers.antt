-- `vram::Vram::cycle` meets its contract: what each kind ensures is what the whole call owes, by `did`. Assumes nothing.
use Rattle.std.proofs.Common.{refl}
use Rattle.numbers.specs.Refuse.{first_of}
use Rattle.vram.specs.Board.{effect}
use Rattle.refusals.specs.Refusal.{write_refusal, full_refusal, split_refusal}
use Rattle.vram.specs.Refusal.{given, refusal}
use Rattle.vram.proofs.Arms.{untouched, did, did_alone}
use Rattle.vram.proofs.Vram.cycle.Goals as goal

pub returns-in-WordWrite : goal.returns-in-WordWrite
unfolding effect refusal
returns-in-WordWrite c =
    rw c.in-WordWrite.is
    (did _ _ _ _ c.word_write.ensures.answer refl c.word_write.ensures.memory (untouched (first_of (given _ _ _) (write_refusal _ _ _ _ _ _)) _))

pub returns-in-BlockWrite : goal.returns-in-BlockWrite
unfolding effect refusal
returns-in-BlockWrite c =
    rw c.in-BlockWrite.is
    (did _ _ _ _ c.block_write.ensures.answer refl c.block_write.ensures.memory (untouched (first_of (given _ _ _) (write_refusal _ _ _ _ _ _)) _))

pub returns-in-LoadColour : goal.returns-in-LoadColour
unfolding effect refusal
returns-in-LoadColour c = rw c.in-LoadColour.is (did_alone _ _ _ _ c.load_colour.ensures refl refl refl)

pub returns-in-LoadMask : goal.returns-in-LoadMask
unfolding effect refusal
returns-in-LoadMask c = rw c.in-LoadMask.is (did_alone _ _ _ _ c.load_mask.ensures refl refl refl)

pub returns-in-ResetRefresh : goal.returns-in-ResetRefresh
unfolding effect refusal
returns-in-ResetRefresh c = rw c.in-ResetRefresh.is (did_alone _ _ _ _ c.reset_refresh.ensures refl refl refl)

pub returns-in-FullTransfer : goal.returns-in-FullTransfer
unfolding effect refusal
returns-in-FullTransfer c =
    rw c.in-FullTransfer.is
    (did _ _ _ _ c.full_transfer.ensures.answer refl (untouched (first_of (given _ _ _) (full_refusal _ _ _)) _) c.full_transfer.ensures.serial)

pub returns-in-SplitTransfer : goal.returns-in-SplitTransfer
unfolding effect refusal
returns-in-SplitTransfer c =
    rw c.in-SplitTransfer.is
    (did _ _ _ _ c.split_transfer.ensures.answer refl (untouched (first_of (given _ _ _) (split_refusal _ _ _ _ _)) _) c.split_transfer.ensures.serial)

pub returns-in-StopPoints : goal.returns-in-StopPoints
unfolding effect refusal
returns-in-StopPoints c = rw c.in-StopPoints.is (did_alone _ _ _ _ c.stop_points.ensures refl refl refl)
