pub mod Front
pub mod OneByOne
pub mod Writing
