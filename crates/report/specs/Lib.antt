-- The text that `play` prints, and the laws about it.

-- digits, lines, and bytes put into a buffer
pub mod Text
-- the same of a page
pub mod Page
-- laws of texts
pub mod TextLaws
-- the text of a list, and the call
pub mod Report
-- what is run is told, and how long it can be
pub mod ReportLaws
