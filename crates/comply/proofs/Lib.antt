pub mod Answer
pub mod Masks
pub mod Pairs
pub mod PairsKnown
pub mod Search
