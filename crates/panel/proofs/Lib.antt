-- What belongs to no one function.
-- clocks that are not refused
pub mod Moved
pub mod Stretch
pub mod Stores
pub mod Two
pub mod Once
-- of the rule of pixels: the mark, the result, the result in reverse
pub mod PixelLaws
-- of the rule of parts: six bits, eight bits
pub mod PartLaws
-- of what a run shows, whatever the rules
pub mod PanelLaws
-- what is accepted; the ways out of the call
pub mod CallLaws
-- a run of j + k clocks is a run of j and then one of k
pub mod InTwo
-- the two runs: the same answer, the bytes of one by the bytes of the other
pub mod WidthLaws
-- on serial registers that differ in low bytes alone
pub mod HighLaws
