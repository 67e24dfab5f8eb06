-- What belongs to no one function.
pub mod Turns
pub mod Once
-- an answer is known by its verdict and what it leaves
pub mod VerdictAnswer
-- of the splitting, for fields of any kind
pub mod SplitLaws
-- of the splitting into fields
pub mod FieldLaws
-- the verdict, field by field
pub mod VerdictLaws
-- the open mask load, field by field and joined
pub mod OpenLaws
-- fields in order, and then what they leave behind
pub mod JudgeLaws
-- of the call, by any engine
pub mod CallLaws
-- the ways out of the call, by any engine
pub mod OutLaws
-- how many bytes and cycles a list has
pub mod CountLaws
-- an accepted list performs every field
pub mod PerformLaws
-- one list, then another
pub mod JoinLaws
-- what a list leaves of persistence
pub mod PersistLaws
-- what is written is read back
pub mod EncodeLaws
-- the same as a planner needs it
pub mod EncodedLaws
-- when a field is settled
pub mod WaitsLaws
-- a list with a refused field, then more bytes
pub mod MoreLaws
-- how a list is walked
pub mod HeadLaws
-- numbers and places stay in range; when 20 is given
pub mod RangeLaws
