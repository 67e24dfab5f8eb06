-- What belongs to no one function.
pub mod Once
-- the number of each call
pub mod NumberLaws
-- what is accepted, the ways out, and that a refusal changes nothing
pub mod CallLaws
-- the rule is kept; a write moves nothing in the pipe, a pixel leaves the low part
pub mod StateLaws
-- the rule is kept in every session, and no pixel that can be accepted is left out
pub mod SessionLaws
-- the three clocks' delay
pub mod Pipe
-- the two ways to write agree
pub mod WriteLaws
-- what is read back
pub mod ReadLaws
-- pixels, refused writes and changed tables between a low part and its high part
pub mod Apart
-- a small session as a table
pub mod Example
