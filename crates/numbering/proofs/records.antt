pub mod Held
pub mod Adding
pub mod Looking
pub mod Numbering
pub mod Row
pub mod States
pub mod Plan
