pub mod Families
pub mod Joining
