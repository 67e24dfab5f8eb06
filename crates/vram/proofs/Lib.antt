-- What belongs to no one function.
pub mod Masks
pub mod Moves
pub mod Arms
pub mod Clocks
pub mod Once
-- what it sets and copies, as data
pub mod Sets
-- writes and loads, bit by bit
pub mod CycleLaws
-- what a cycle leaves, by its tag
pub mod KeptLaws
-- transfers, word by word
pub mod TransferLaws
-- a cycle changes nothing at which it does not aim
pub mod AimLaws
-- lengths, the width of words, rows and the state's rule are kept
pub mod RuleLaws
-- at length 128 the motion is document 01's
pub mod HalfLaws
-- of the calls that move the serial port
pub mod CallLaws
-- the definitions case by case, for other crates
pub mod CaseLaws
-- high bytes depend on high bytes
pub mod HighLaws
-- writes of results alone leave every mark
pub mod SpareLaws
