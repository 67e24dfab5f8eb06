-- An answer is known by its number and what it leaves: so a contract that says both determines the answer. Assumes nothing.
use Rattle.std.specs.Prelude.{◌≡◌, ◌≢◌, refl, ℕ, false, cond, eqb, Result}
use Rattle.std.specs.Prelude.Result.{Ok, Err}
use Rattle.std.proofs.Common.{arith, ne_eqb}
use Rattle.numbers.specs.declared.Refusal.{Refusal}
use Rattle.numbers.specs.declared.Refusal.TheVariants.{StateExcluded, MemoryLength, RegisterLength, FieldUnreadable, RowNotFitted, ColumnOver, StrobesOther, MaskingOther, HalfOrTapOver, NotLoaded, SelectOther, RectangleOutside, FillPersistent, RunOver, BufferShort, SettingOther, VideoOffOrOverride, MarksLength, PartitionOther, MaskLeftBehind, AddressOrDataOver, NoLowPart}
use Rattle.numbers.specs.Refusal.{number_of, given_back, left_by}

-- no refusal has the number of what is done
pub number_not_zero : (refusal : Refusal) → number_of refusal ≢ 0
number_not_zero StateExcluded = λ e. omega (arith, e)
number_not_zero MemoryLength = λ e. omega (arith, e)
number_not_zero RegisterLength = λ e. omega (arith, e)
number_not_zero FieldUnreadable = λ e. omega (arith, e)
number_not_zero RowNotFitted = λ e. omega (arith, e)
number_not_zero ColumnOver = λ e. omega (arith, e)
number_not_zero StrobesOther = λ e. omega (arith, e)
number_not_zero MaskingOther = λ e. omega (arith, e)
number_not_zero HalfOrTapOver = λ e. omega (arith, e)
number_not_zero NotLoaded = λ e. omega (arith, e)
number_not_zero SelectOther = λ e. omega (arith, e)
number_not_zero RectangleOutside = λ e. omega (arith, e)
number_not_zero FillPersistent = λ e. omega (arith, e)
number_not_zero RunOver = λ e. omega (arith, e)
number_not_zero BufferShort = λ e. omega (arith, e)
number_not_zero SettingOther = λ e. omega (arith, e)
number_not_zero VideoOffOrOverride = λ e. omega (arith, e)
number_not_zero MarksLength = λ e. omega (arith, e)
number_not_zero PartitionOther = λ e. omega (arith, e)
number_not_zero MaskLeftBehind = λ e. omega (arith, e)
number_not_zero AddressOrDataOver = λ e. omega (arith, e)
number_not_zero NoLowPart = λ e. omega (arith, e)

-- the refusal of a number
abbrev pub refusal_of : ℕ → Refusal
refusal_of n =
    cond (eqb n 1) StateExcluded (
    cond (eqb n 2) MemoryLength (
    cond (eqb n 3) RegisterLength (
    cond (eqb n 4) FieldUnreadable (
    cond (eqb n 5) RowNotFitted (
    cond (eqb n 6) ColumnOver (
    cond (eqb n 7) StrobesOther (
    cond (eqb n 8) MaskingOther (
    cond (eqb n 9) HalfOrTapOver (
    cond (eqb n 10) NotLoaded (
    cond (eqb n 11) SelectOther (
    cond (eqb n 12) RectangleOutside (
    cond (eqb n 13) FillPersistent (
    cond (eqb n 14) RunOver (
    cond (eqb n 15) BufferShort (
    cond (eqb n 16) SettingOther (
    cond (eqb n 17) VideoOffOrOverride (
    cond (eqb n 18) MarksLength (
    cond (eqb n 19) PartitionOther (
    cond (eqb n 20) MaskLeftBehind (
    cond (eqb n 21) AddressOrDataOver (
    NoLowPart)))))))))))))))))))))

pub refusal_is : (refusal : Refusal) → refusal_of (number_of refusal) ≡ refusal
refusal_is StateExcluded = refl
refusal_is MemoryLength = refl
refusal_is RegisterLength = refl
refusal_is FieldUnreadable = refl
refusal_is RowNotFitted = refl
refusal_is ColumnOver = refl
refusal_is StrobesOther = refl
refusal_is MaskingOther = refl
refusal_is HalfOrTapOver = refl
refusal_is NotLoaded = refl
refusal_is SelectOther = refl
refusal_is RectangleOutside = refl
refusal_is FillPersistent = refl
refusal_is RunOver = refl
refusal_is BufferShort = refl
refusal_is SettingOther = refl
refusal_is VideoOffOrOverride = refl
refusal_is MarksLength = refl
refusal_is PartitionOther = refl
refusal_is MaskLeftBehind = refl
refusal_is AddressOrDataOver = refl
refusal_is NoLowPart = refl

-- the answer with a number and what it leaves
abbrev pub answer_of : {T : Type 0} → ℕ → T → Result T Refusal
answer_of number left = cond (eqb number 0) (Ok left) (Err (refusal_of number))

pub answer_is : {T : Type 0} (before : T) (answer : Result T Refusal) → answer_of (given_back answer) (left_by before answer) ≡ answer
answer_is before (Ok made) = refl
answer_is before (Err refusal) =
    let e : eqb (number_of refusal) 0 ≡ false = ne_eqb (number_of refusal) 0 (number_not_zero refusal) in
    rw (e, refusal_is refusal) refl
