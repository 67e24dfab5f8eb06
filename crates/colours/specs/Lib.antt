-- The rules of change request M-112, the Am8159's table and pixels, and the laws about them.

-- words of thirteen bits, and their two parts
pub mod Table
-- what a pixel asks for, and the level of each gun
pub mod Output
-- the low part that waits and the pipe, and the states that the rules exclude
pub mod State
-- every call: what refuses it, what it does, what it answers
pub mod Calls
-- calls one after the other, and the accepted pixels among them
pub mod Session
-- the sheet's function table, row by row
pub mod FunctionTable
-- the four cases of a pixel, and what blink inverts
pub mod OutputLaws
-- every row of the function table holds, and every pixel fits one
pub mod FunctionTableLaws
