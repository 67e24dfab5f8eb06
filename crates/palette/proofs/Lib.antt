-- What belongs to no one function.
pub mod Once
-- the ways out of each call
pub mod CallLaws
-- what an access that is not refused keeps
pub mod AccessLaws
-- what every access keeps, refused or not
pub mod KeptLaws
-- an address and three colours set exactly one entry; what select 3 leaves
pub mod EntrySet
-- what a read answers and leaves
pub mod ReadLaws
-- entries read and written one after the other
pub mod SessionLaws
-- a palette that is saved comes back
pub mod Saved
