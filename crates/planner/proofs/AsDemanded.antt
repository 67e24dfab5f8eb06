-- Demand 3 of an answer that meets the call's equation: the theorems of its three parts together. Assumes nothing.
use Rattle.std.specs.Prelude.{ℕ, ◌<◌, ◌≡◌, refl, length, List}
use Rattle.std.proofs.Common.{sym, subst, arith}
use Rattle.numbers.specs.BufferLaws.{take_over}
use Rattle.planner.specs.declared.Filled.{Filled}
use Rattle.planner.specs.Fill.{Fill, plan}
use Rattle.planner.specs.Calls.{asked_refusal, list_of, Outcome, outcome, fill_call}
use Rattle.planner.proofs.CallLaws.{filled, fill_fits}
use Rattle.planner.specs.Paint.{Wide, list_in, Demanded}
use Rattle.planner.proofs.ItPaints.{it_paints, fill_paints}
use Rattle.planner.proofs.ItIsShortest.{it_is_shortest}
use Rattle.planner.proofs.ItCounts.{it_counts}

abbrev AsDemanded : Fill → Outcome → Type 0
AsDemanded f o = o.answer.number ≡ 0 → Demanded f o.answer (list_in o)

pub as_demanded : (f : Fill) (out : List ℕ) → Wide f → AsDemanded f (fill_call f out)
as_demanded f out wide z =
    record {
      paints = it_paints f out wide z;
      compared = fill_paints f out wide z;
      shortest = it_is_shortest f out wide z;
      cycles = (it_counts f out z).0;
      bytes = (it_counts f out z).1;
    }

-- the equation, and what is demanded beside it
pub with_demand : (f : Fill) (out : List ℕ) {r : Filled} {out' : List ℕ} → f.mask < 65536 → f.colour < 65536
    → outcome r out' ≡ fill_call f out
    → (outcome r out' ≡ fill_call f out) × (r.number ≡ 0 → Demanded f r (list_in (outcome r out')))
with_demand f out mask colour e =
    (e, subst (AsDemanded f) (sym e) (as_demanded f out (record { mask = mask; colour = colour })))

-- and of the list itself, where what is asked is not refused
pub list_demanded : (f : Fill) → Wide f → asked_refusal f ≡ 0 → Demanded f (filled 0 (length (list_of f)) (length (plan f))) (list_of f)
list_demanded f wide z =
    let o = fill_fits f (list_of f) z (omega arith) in
    subst (Demanded f (filled 0 (length (list_of f)) (length (plan f)))) (take_over (list_of f) (list_of f))
    (subst (AsDemanded f) o (as_demanded f (list_of f) wide) refl)
