-- An answer of a list is known by its verdict and what it leaves. Assumes nothing.
use Rattle.std.specs.Prelude.{◌≡◌, false, refl, cond, eqb, Result}
use Rattle.std.specs.Prelude.Result.{Ok, Err}
use Rattle.std.proofs.Common.{ne_eqb}
use Rattle.numbers.specs.Refusal.{number_of, left_by}
use Rattle.numbers.specs.RefusalLaws.{number_not_zero, refusal_of, refusal_is}
use Rattle.list.specs.declared.Refused.{Refused}
use Rattle.list.specs.Meaning.{Bad, bad_of}

-- the answer with a verdict and what it leaves
abbrev pub verdict_answer : {T : Type 0} → Bad → T → Result T Refused
verdict_answer v left = cond (eqb v.number 0) (Ok left) (Err (record { refusal = refusal_of v.number; place = v.place }))

pub verdict_is : {T : Type 0} (before : T) (answer : Result T Refused) → verdict_answer (bad_of answer) (left_by before answer) ≡ answer
verdict_is before (Ok made) = refl
verdict_is before (Err refused) =
    let e : eqb (number_of refused.refusal) 0 ≡ false = ne_eqb (number_of refused.refusal) 0 (number_not_zero refused.refusal) in
    rw (e, refusal_is refused.refusal) refl
