-- The Am8159's C interface.

-- three levels as C has them
pub mod Levels
-- the state and the inputs as C has them
pub mod State
-- what each export answers
pub mod Calls
-- an output there and back
pub mod LevelLaws
-- the state there and back
pub mod StateLaws
-- the ways out of an export; 1 exactly where the state is not lawful; a refusal hands everything back
pub mod CallLaws
-- calls in a row from C
pub mod Session
-- they leave and answer what those of `colours` do
pub mod SessionLaws
-- the delay, as C sees it
pub mod Delay
