-- What belongs to no one function.
pub mod Turns
pub mod Outs
pub mod Once
-- of what refuses a page and of what it answers
pub mod CallLaws
-- its fills are not refused
pub mod Each
-- it is its fills called one by one
pub mod OneByOne
-- what it paints, and demand 3 for each part
pub mod PagePaints
-- a point of the running
pub mod Stage
-- bits that some rectangles leave alone
pub mod SparedLaws
-- of the points of the running
pub mod StageLaws
-- cycle by cycle: marks first
pub mod Stages
