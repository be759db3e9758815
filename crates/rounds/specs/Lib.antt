pub mod Records
pub mod Work
pub mod Steps
