-- The rules of change request M-100, the Am8150's counters, and the laws about them.

-- registers and counters, and the states that the rules exclude
pub mod State
-- addresses of 18 bits, and the pan
pub mod Address
-- what each call does where nothing is refused
pub mod Effect
-- every call: what refuses it, what it does, what it answers
pub mod Calls
-- calls one after the other
pub mod Session
-- the calls of a frame, and what may stand before it
pub mod Frame
-- of the state's rule
pub mod StateLaws
-- of wrapping, and of bank, row and column
pub mod AddressLaws
-- the two cases of an addition at a horizontal sync
pub mod EffectLaws
-- what is accepted; a refusal changes nothing
pub mod CallLaws
