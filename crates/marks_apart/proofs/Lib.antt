-- What is proved of the statements of specs/.

-- the mark does not depend on the result
pub mod Apart
-- the sentence on one word
pub mod OneWord
-- two boards that differ in every low byte, and what is shown of them
pub mod Example
-- two faulty engines, and where each shows
pub mod Faults
