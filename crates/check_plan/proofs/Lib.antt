pub mod Admitting
pub mod Walking
pub mod Outcomes
