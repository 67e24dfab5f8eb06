-- The rules of document 01, "The palette", with change request M-102, and the laws about them.

-- entries and colours of six bits
pub mod Table
-- the registers, and the states that the rules exclude
pub mod State
-- what each access does
pub mod Access
-- what each call answers and leaves
pub mod Calls
-- of entries that are stored
pub mod TableLaws
-- of the state's rule
pub mod StateLaws
-- accesses one after the other
pub mod Session
