-- Fills: the rule, what a list is to paint, and that no accepted list that paints it is shorter.

-- the fill, and its list as the rule says it
pub mod Fill
-- what a fill answers and leaves
pub mod Calls
-- what a fill comes to, before a byte is written
pub mod Shapes
-- what a list is to paint, and what is demanded
pub mod Paint
-- the list's bytes, as the code stores them
pub mod Bytes
-- of column bits
pub mod ColumnLaws
