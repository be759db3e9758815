pub mod Attempting
pub mod Following
pub mod Moving
pub mod Need
pub mod Start
