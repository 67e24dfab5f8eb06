-- The starred bench cases, that of change request M-102 and ours for M-107, and that they hold.

-- the cases, as one list
pub mod Cases
-- that every one of them holds
pub mod Bench
