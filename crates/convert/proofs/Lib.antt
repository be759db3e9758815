pub mod Tables
pub mod Converting
