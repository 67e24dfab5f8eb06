-- Marks of rows for C.

-- what each export answers
pub mod Calls
-- of the same
pub mod CallLaws
-- C's marked runs one after the other, and a link in C
pub mod Runs
-- they are those of `marks`
pub mod RunLaws
-- what a link in C relies on
pub mod Link
-- on memories and serial registers that agree in every high byte
pub mod HighLaws
