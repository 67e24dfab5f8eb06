-- The rules of document 01, "Lists and fills", and the laws about them.

-- what a tag and a body mean
pub mod Tags
-- how bytes split into fields of any kind
pub mod Splits
-- bytes as fields
pub mod Fields
-- the mask load that is still open
pub mod Open
-- the verdict, and the call
pub mod Meaning
-- cycles as bytes
pub mod Encode
-- what fields leave together
pub mod Joined
-- bytes that more bytes may make a field of
pub mod Waits
-- the field at the head of some bytes
pub mod Heads
-- what the tag table comes to, tag by tag
pub mod TagLaws
-- on boards that differ in low bytes alone
pub mod HighLaws
