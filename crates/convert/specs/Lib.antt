pub mod Sets
pub mod Answer
