-- What every call's contract is made of.

-- which number is given, and what a refusal leaves
pub mod Refuse
-- what an answer gives back and leaves
pub mod Refusal
-- an answer is known by its number and what it leaves
pub mod RefusalLaws
-- of numbers given back
pub mod RefuseLaws
-- ranges, and two tests that both hold
pub mod Between
-- bytes at the start of a buffer
pub mod Buffer
-- of the same
pub mod BufferLaws
-- what it means that a contract determines its outcome
pub mod Determines
-- contracts that do
pub mod DeterminesLaws
-- a walk over what is left of a slice
pub mod Rest
