-- A list on two boards that differ in low bytes alone: the same answer, and high bytes that agree. Change request M-110. Assumes nothing.
use Rattle.std.specs.Prelude.{◌≡◌, List, ℕ}
use Rattle.vram.specs.Board.{Board}
use Rattle.vram.specs.Step.{Engine}
use Rattle.vram.specs.High.{Twins, KeepsTwins}
use Rattle.vram.proofs.HighLaws.{agree_length, leaves_twins, run_twins}
use Rattle.list.specs.Meaning.{cycles_of, verdict_of, run_call_by}

module _ (list : List ℕ) {a b : Board} (t : Twins a b) where
  pub verdict_twins : verdict_of list a ≡ verdict_of list b
  unfolding verdict_of
  verdict_twins = rw (t.state, agree_length t.memory, agree_length t.serial)

  -- by any engine that keeps twins
  module _ (e : Engine) (keeps : KeepsTwins e) where
    pub given_twins : (run_call_by e list a).given ≡ (run_call_by e list b).given
    unfolding run_call_by
    given_twins = verdict_twins

    pub after_twins : Twins (run_call_by e list a).after (run_call_by e list b).after
    unfolding run_call_by
    after_twins = rw verdict_twins (leaves_twins (verdict_of list b).number t (run_twins e keeps (cycles_of list) t))
