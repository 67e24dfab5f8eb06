-- Change request M-110: the status mark does not depend on the result.

-- the ways to run a list
pub mod Ways
-- of the same, on boards that differ in low bytes alone
pub mod WayLaws
-- the statement of the request
pub mod Apart
-- the sentence on one word
pub mod OneWord
-- drawing results leaves every mark
pub mod Results
-- two such boards, and what is shown of them
pub mod Example
-- two faulty engines, and where each shows
pub mod Faults
-- C's exports, in any order
pub mod InC
