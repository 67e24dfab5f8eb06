-- The plain engine: change request M-105.

-- a word bit by bit, and the bits that a column has left
pub mod Bits
-- of the same
pub mod BitLaws
-- what the code computes of one bit
pub mod CodeLaws
-- writes to the memory, word by word
pub mod Memory
-- what the engine makes of a board
pub mod Pencil
-- what each call answers and leaves
pub mod Calls
