pub mod Ready
pub mod Steps
pub mod Wanted
pub mod Looking
