pub mod Answer
pub mod Masks
pub mod Met
pub mod Pairs
