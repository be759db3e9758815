pub mod Keys
pub mod Opening
pub mod Faults
pub mod Steps
pub mod Visiting
pub mod Rows
pub mod Expanding
pub mod Walking
