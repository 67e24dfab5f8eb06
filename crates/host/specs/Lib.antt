-- The C interface.

-- what each export answers
pub mod Calls
-- a refusal hands the state back; a call on a state handed to C is the call below
pub mod CallLaws
-- on serial registers that agree in every high byte
pub mod HighLaws
