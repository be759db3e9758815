pub mod States
pub mod Graph
