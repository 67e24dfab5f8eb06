-- Demand 3, first part: it paints. For every fill that is not refused, from every board that the rules allow with the rows fitted and
-- not persistent, the bytes written are a list that `list` accepts, and running it leaves the memory that the rectangle asks for and
-- all else as `after_fill` says. Assumes nothing.
use Rattle.std.specs.Prelude.{◌≡◌, refl, true, false, List, ℕ, length}
use Rattle.std.proofs.Common.{sym, ap, ◌∙◌}
use Rattle.vram.specs.declared.Vram.{Vram}
use Rattle.vram.specs.State.{ruled}
use Rattle.vram.specs.Board.{Board}
use Rattle.vram.proofs.RuleLaws.{registers_ruled}
use Rattle.list.specs.Meaning.{bad, Outcome, gives, run_call}
use Rattle.list.proofs.CallLaws.{call_given}
use Rattle.planner.specs.Fill.{Fill}
use Rattle.planner.specs.Calls.{fill_call}
use Rattle.planner.specs.Paint.{after_fill, list_in, Wide, Memory, Start, from, Paints}
use Rattle.planner.proofs.PlanRuns.{list_runs}
use Rattle.planner.proofs.AcceptedLaws.{accepted_asked, accepted_list}
use Rattle.planner.proofs.CallLaws.{asked_sound}

pub it_paints : (f : Fill) (out : List ℕ) → Wide f → (fill_call f out).answer.number ≡ 0 → (b : Board) → Start f.rows b
    → run_call (list_in (fill_call f out)) b ≡ gives (bad 0 0) (after_fill f b)
it_paints f out wide z b start =
    ap (λ (list : List ℕ). run_call list b) (accepted_list f out z) ∙ list_runs f (asked_sound f (accepted_asked f out z)) wide b start

-- so it is one of the lists with which the second part compares it, for every serial state and stop points that the rules allow
pub fill_paints : (f : Fill) (out : List ℕ) → Wide f → (fill_call f out).answer.number ≡ 0
    → (s : Vram) (r : List ℕ) → ruled s ≡ true → length r ≡ 256 → Paints f s r (list_in (fill_call f out))
fill_paints f out wide z s r rule register =
    record {
      accepted = λ colour mask m h k fits.
          let list = list_in (fill_call f out) in
          sym (ap (λ o. o.number) (call_given list (from s colour mask m r))) ∙ ap (λ (o : Outcome). o.given.number) (ran colour mask m fits);
      paints = λ colour mask m h k fits. ap (λ (o : Outcome). o.after.memory) (ran colour mask m fits);
    }
  where
    ran : (colour mask : ℕ) (m : List ℕ) → Memory f.rows m
        → run_call (list_in (fill_call f out)) (from s colour mask m r) ≡ gives (bad 0 0) (after_fill f (from s colour mask m r))
    ran colour mask m fits =
        it_paints f out wide z (from s colour mask m r)
        (record { rule = registers_ruled s colour mask false ∙ rule; memory = fits; register = register; plain = refl })
