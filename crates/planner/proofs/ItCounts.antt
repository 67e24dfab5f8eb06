-- Demand 3, third part: it counts. For every fill that is not refused, the cycles answered are the fields of the list written, and
-- the bytes answered are its length. Assumes nothing.
use Rattle.std.specs.Prelude.{◌≡◌, List, ℕ, length}
use Rattle.std.proofs.Common.{sym, ap, ◌∙◌}
use Rattle.list.specs.Meaning.{count_of}
use Rattle.list.proofs.EncodeLaws.{count_encode_all}
use Rattle.planner.specs.Fill.{Fill, plan}
use Rattle.planner.specs.Calls.{fill_call}
use Rattle.planner.specs.Paint.{list_in}
use Rattle.planner.proofs.AcceptedLaws.{accepted_bytes, accepted_cycles, accepted_list}

pub it_counts : (f : Fill) (out : List ℕ) → (fill_call f out).answer.number ≡ 0
    → ((fill_call f out).answer.cycles ≡ count_of (list_in (fill_call f out))) × ((fill_call f out).answer.bytes ≡ length (list_in (fill_call f out)))
it_counts f out z = (
  accepted_cycles f out z ∙ sym (count_encode_all (plan f)) ∙ sym (ap count_of (accepted_list f out z)),
  accepted_bytes f out z ∙ sym (ap length (accepted_list f out z)),
)
