-- The rules of document 01, "The memory and its registers" and "Cycles on the memory", and the laws about them.

-- the registers, and the states that the rules exclude
pub mod State
-- writes and copies on a slice of words
pub mod Memory
-- what a cycle does where nothing is refused
pub mod Board
-- what is refused
pub mod Refusal
-- a cycle that refuses or acts, and cycles in order
pub mod Step
-- the serial port
pub mod Serial
-- what each call answers and leaves
pub mod Calls
-- tags, what a cycle writes to, and what it makes of `loaded` and persistence
pub mod Kinds
-- what a cycle aims at
pub mod Aims
-- of lists that a function does not tell apart
pub mod ListLaws
-- of writes and copies
pub mod MemoryLaws
-- what holds where nothing is refused
pub mod RefusalLaws
-- of steps and runs, by any engine
pub mod StepLaws
-- what a cycle writes, as data
pub mod Writes
-- the lengths of a partition, and the stop points that they ask for
pub mod StopLaws
-- what the arithmetic needs of a partition's length
pub mod Partition
-- the pointer's motion
pub mod SerialLaws
-- boards that differ in low bytes alone, and cycles that reach no high byte
pub mod High
-- the sheet's worked block write, and its table of stop points
pub mod Sheet
