pub mod Texts
pub mod Refusing
