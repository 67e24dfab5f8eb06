-- What belongs to no one function.
pub mod Turns
pub mod Outs
pub mod Once
-- of marks
pub mod MarkLaws
-- of the first marked row
pub mod NextLaws
-- of the calls
pub mod CallLaws
-- of the same
pub mod RunLaws
-- since the clearing: which rows are marked, and what the others hold
pub mod Since
-- of a walk
pub mod WalkLaws
-- `next` gives the least marked row; a walk visits each marked row once
pub mod Visits
-- of what is sent
pub mod LinkLaws
-- the link has the memory
pub mod Link
-- on boards that differ in low bytes alone
pub mod HighLaws
