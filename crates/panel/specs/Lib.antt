-- A run to the panel, and the laws about it.

-- from a word to three bytes
pub mod Panel
-- two bytes as one number
pub mod Two
-- what a run answers and leaves
pub mod Calls
