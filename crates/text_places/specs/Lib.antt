pub mod Wanted
pub mod Filled
pub mod Lent
