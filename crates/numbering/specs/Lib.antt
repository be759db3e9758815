pub mod Table
pub mod Writing
