-- Change request M-109: a list that comes in pieces.

-- the rule, of one byte
pub mod Line
-- the line as the code holds it, and its rule
pub mod Pieces
-- the calls
pub mod Calls
-- what fields come to that are judged as they run
pub mod Meant
-- pieces one after the other, then the last call
pub mod Cutting
-- of the line as the code holds it
pub mod PackLaws
-- a part of the way through a piece
pub mod Turns
-- of the calls
pub mod CallLaws
-- the fields before the refused one are those of the bytes before its place
pub mod PlaceLaws
-- on boards that differ in low bytes alone
pub mod HighLaws
