pub mod Joins
pub mod Settled
pub mod Choosing
pub mod Masks
pub mod Slots
pub mod Holding
