-- Marks of rows: change request M-104.

-- marks as bits of bytes, and what sets them
pub mod Marks
-- what each call answers and leaves
pub mod Calls
-- marked runs one after the other
pub mod Runs
-- a link: the rows that it visits, and what it sends
pub mod Walk
