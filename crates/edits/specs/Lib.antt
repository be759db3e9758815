pub mod Places
pub mod Sound
pub mod Check
pub mod Promises
pub mod Cases
