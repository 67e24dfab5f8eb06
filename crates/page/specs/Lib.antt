-- Pages: rectangles as fields, and the lists of their fills, joined.

-- bytes as rectangles
pub mod Rectangles
-- what is left of a buffer
pub mod Rooms
-- what refuses a page, what it answers and leaves
pub mod Calls
-- of the rectangles
pub mod RectangleLaws
-- of what is left of a buffer
pub mod RoomLaws
