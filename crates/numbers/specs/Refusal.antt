-- What an answer gives back and leaves: document 01, "Numbers given back". Assumes nothing.
use Rattle.std.specs.Prelude.{ℕ, Result}
use Rattle.std.specs.Result.{result_unwrap_or}
use Rattle.std.specs.Prelude.Result.{Ok, Err}
use Rattle.numbers.specs.declared.Refusal.{Refusal}
use Rattle.numbers.specs.declared.Refusal.TheVariants.{StateExcluded, MemoryLength, RegisterLength, FieldUnreadable, RowNotFitted, ColumnOver, StrobesOther, MaskingOther, HalfOrTapOver, NotLoaded, SelectOther, RectangleOutside, FillPersistent, RunOver, BufferShort, SettingOther, VideoOffOrOverride, MarksLength, PartitionOther, MaskLeftBehind, AddressOrDataOver, NoLowPart}

-- the number of each refusal
abbrev pub number_of : Refusal → ℕ
number_of StateExcluded = 1
number_of MemoryLength = 2
number_of RegisterLength = 3
number_of FieldUnreadable = 4
number_of RowNotFitted = 5
number_of ColumnOver = 6
number_of StrobesOther = 7
number_of MaskingOther = 8
number_of HalfOrTapOver = 9
number_of NotLoaded = 10
number_of SelectOther = 11
number_of RectangleOutside = 12
number_of FillPersistent = 13
number_of RunOver = 14
number_of BufferShort = 15
number_of SettingOther = 16
number_of VideoOffOrOverride = 17
number_of MarksLength = 18
number_of PartitionOther = 19
number_of MaskLeftBehind = 20
number_of AddressOrDataOver = 21
number_of NoLowPart = 22

-- the number that an answer gives back
abbrev pub given_back : {T : Type 0} → Result T Refusal → ℕ
given_back (Ok _) = 0
given_back (Err refusal) = number_of refusal

-- what an answer leaves: what the call made, and else what was before
abbrev pub left_by : {T E : Type 0} → T → Result T E → T
left_by before answer = result_unwrap_or answer before
