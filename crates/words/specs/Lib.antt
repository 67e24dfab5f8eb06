-- A word as bits, and the laws that every other crate cites.

-- bits and digits
pub mod Bit
-- of bits
pub mod BitLaws
-- merging, strobes, column masks
pub mod Word
-- of the same
pub mod WordLaws
-- what the code computes is what the definitions say
pub mod CodeLaws
