pub mod Wanting
pub mod Lent
pub mod Filling
pub mod Same
