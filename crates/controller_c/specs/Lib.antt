-- The Am8150's C interface.

-- the state as C has it
pub mod State
-- what each export answers
pub mod Calls
-- the state there and back
pub mod StateLaws
-- a refusal hands the state back; a session in C is the session below
pub mod CallLaws
