pub mod Joined
pub mod Ready
pub mod Parts
