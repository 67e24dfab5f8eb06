-- What refuses a cycle by its numbers alone.

-- the refusal of each kind
pub mod Refusal
-- what holds where nothing is refused, and which numbers are given
pub mod RefusalLaws
