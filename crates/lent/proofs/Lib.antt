pub mod Counts
pub mod Gives
