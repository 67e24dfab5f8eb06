-- Demand 3, second part: no accepted list that paints is shorter. For every fill that is not refused and every list of bytes that
-- paints it with one serial state, stop points and register, whatever its tags, masks, strobes and length: its cycles are at least those
-- that the fill answers. Assumes nothing.
use Rattle.std.specs.Prelude.{◌≡◌, refl, Bool, true, false, List, ℕ, ◌≤◌, eqb, length}
use Rattle.std.proofs.Common.{sym, ap, subst, zero-le, eqb-true}
use Rattle.std.proofs.lemmas.Bool.{eqb-false}
use Rattle.vram.specs.declared.Vram.{Vram}
use Rattle.list.specs.Meaning.{count_of}
use Rattle.planner.specs.Fill.{Fill, plan}
use Rattle.planner.proofs.FillLaws.{plan_nothing, plan_length}
use Rattle.planner.specs.Calls.{fill_call}
use Rattle.planner.proofs.CallLaws.{asked_sound}
use Rattle.planner.specs.Paint.{Wide, Paints}
use Rattle.planner.proofs.AcceptedLaws.{accepted_asked, accepted_cycles}
use Rattle.planner.proofs.Least.{least}

pub it_is_shortest : (f : Fill) (out : List ℕ) → Wide f → (fill_call f out).answer.number ≡ 0
    → (s : Vram) (r list : List ℕ) → Paints f s r list → (fill_call f out).answer.cycles ≤ count_of list
it_is_shortest f out wide z s r list paints = subst (λ (n : ℕ). n ≤ count_of list) (sym (accepted_cycles f out z)) (go (eqb f.mask 0) refl)
  where
    go : (t : Bool) → eqb f.mask 0 ≡ t → length (plan f) ≤ count_of list
    go true e = subst (λ (n : ℕ). n ≤ count_of list) (sym (ap length (plan_nothing f (eqb-true f.mask 0 e)))) zero-le
    go false e =
        let n = eqb-false f.mask 0 e in
        subst (λ (k : ℕ). k ≤ count_of list) (sym (plan_length f n)) (least f (asked_sound f (accepted_asked f out z)) wide n s r list paints)
