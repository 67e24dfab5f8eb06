-- A list with marks of rows on two boards that differ in low bytes alone: the same answer, the same rows marked, and high bytes that agree.
-- Change request M-110. Assumes nothing.
use Rattle.std.specs.Prelude.{◌≡◌, List, ℕ, length}
use Rattle.vram.specs.Board.{Board}
use Rattle.vram.specs.Step.{Engine}
use Rattle.vram.specs.High.{Twins, KeepsTwins}
use Rattle.vram.proofs.HighLaws.{agree_length, leaves_twins, run_twins}
use Rattle.list.specs.Meaning.{cycles_of}
use Rattle.list.specs.HighLaws.{verdict_twins as list_twins}
use Rattle.marks.specs.Calls.{verdict_of, run_call_by}

module _ (list marks : List ℕ) {a b : Board} (t : Twins a b) where
  verdict_twins : verdict_of list a (length marks) ≡ verdict_of list b (length marks)
  unfolding verdict_of
  verdict_twins = rw (list_twins list t, t.state, agree_length t.memory, agree_length t.serial)

  -- by any engine that keeps twins
  module _ (e : Engine) (keeps : KeepsTwins e) where
    pub given_twins : (run_call_by e list a marks).given ≡ (run_call_by e list b marks).given
    unfolding run_call_by
    given_twins = verdict_twins

    pub marks_twins : (run_call_by e list a marks).marks ≡ (run_call_by e list b marks).marks
    unfolding run_call_by
    marks_twins = rw verdict_twins

    pub after_twins : Twins (run_call_by e list a marks).after (run_call_by e list b marks).after
    unfolding run_call_by
    after_twins = rw verdict_twins (leaves_twins (verdict_of list b (length marks)).number t (run_twins e keeps (cycles_of list) t))
