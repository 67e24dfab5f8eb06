-- What belongs to no one function.
pub mod Once
-- numbers picked in order
pub mod SeriesLaws
-- words and blocks by rows and columns
pub mod FillLaws
-- of bytes put one after the other
pub mod BytesLaws
-- those bytes are the plan's cycles
pub mod PlanLaws
-- of the refusals and the ways out
pub mod CallLaws
-- of what a fill comes to
pub mod ShapeLaws
-- what painted means, bit by bit
pub mod PaintLaws
-- the plan paints, write by write
pub mod PlanPaints
-- what a fill that is not refused answers
pub mod AcceptedLaws
-- numbers that all stand in a list are no more than the list is long
pub mod Pigeon
-- no list turns every bit right with fewer cycles
pub mod Bound
-- the list runs
pub mod PlanRuns
-- from bytes to the bound
pub mod Least
-- demand 3, first part
pub mod ItPaints
-- second part
pub mod ItIsShortest
-- third part
pub mod ItCounts
-- all of it, of an answer
pub mod AsDemanded
-- W, B and the count
pub mod ClosedForm
-- a fill after a list
pub mod AfterList
-- cycle by cycle
pub mod NeverHalf
