-- What belongs to no one function.
pub mod Once
-- the rule is kept by every call
pub mod SessionLaws
-- of the calls of a frame
pub mod FrameLaws
-- the address of word k of line l
pub mod FrameAddress
-- what ends an inhibition and what does not
pub mod Inhibited
-- the refresh counter after n syncs
pub mod Refresh
-- what moves the counter, and what does not
pub mod Moves
-- pans, their ends and their sums
pub mod Pans
-- a small frame as a table
pub mod Example
