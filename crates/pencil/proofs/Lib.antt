-- What belongs to no one function.
pub mod Turns
pub mod Outs
pub mod Once
pub mod Alike
-- it does what the rules' engine does
pub mod EngineLaws
-- the two engines give equal answers and leave equal contents
pub mod Same
