pub mod Rows
pub mod Parts
pub mod Own
pub mod Promises
pub mod Cases
