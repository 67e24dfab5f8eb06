-- What each export owes.
pub mod Once
