-- C's calls one after the other.

-- the calls that take the video RAM's state and hand it back
pub mod Session
-- what they leave of persistence, and a fill or a page after them
pub mod AfterCalls
-- the exports of the two engines have the same contracts
pub mod Alike
