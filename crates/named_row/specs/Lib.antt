pub mod Row
pub mod Answers
pub mod Promises
pub mod Cases
