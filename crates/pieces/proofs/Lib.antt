-- What each public call owes.
pub mod Once
-- of the rule, case by case
pub mod LineLaws
-- bytes come to what their fields come to, and that to what the whole list does
pub mod MeantLaws
-- what bytes make of a line that meets the rule meets it
pub mod KeepLaws
-- a whole field at the head of a piece goes at once
pub mod WholeLaws
-- of the same: a field
pub mod TurnLaws
-- a byte
pub mod ByteLaws
-- the way through
pub mod AlongLaws
-- a cutting is the bytes that it joins to
pub mod CutLaws
-- every cutting gives what the whole list gives
pub mod Cuts
-- from the refused field on nothing changes
pub mod Refused
-- what calls make meets the rule
pub mod Reach
-- how far a list has come
pub mod OverLaws
-- a list that is too long
pub mod Over
-- writes of results alone leave every mark
pub mod SpareLaws
