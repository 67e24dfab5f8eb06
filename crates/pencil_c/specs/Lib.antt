-- The plain engine for C.

-- what each export answers
pub mod Calls
-- it is what the fast engine's export answers
pub mod Same
-- what it leaves of persistence
pub mod CallLaws
