-- The video RAM's state as C has it.

-- as C has it and as `vram` has it
pub mod State
-- there and back
pub mod StateLaws
-- a list's call, by any engine
pub mod Lists
-- of the same
pub mod ListLaws
-- on memories and serial registers that agree in every high byte
pub mod HighLaws
