pub mod Table
pub mod Emitting
pub mod Relating
pub mod Connecting
pub mod Outcomes
