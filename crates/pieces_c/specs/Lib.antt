-- Lists in pieces for C.

-- as C has it and as `pieces` has it
pub mod Line
-- what each export answers
pub mod Calls
-- there and back, and of the exports
pub mod CallLaws
-- a list in pieces as C sends it
pub mod Cutting
-- every cutting, for C
pub mod Cuts
-- what C's calls make meets the rule
pub mod Reach
-- on memories and serial registers that agree in every high byte
pub mod HighLaws
