pub mod Union
pub mod Answers
pub mod Whole
pub mod Offer
pub mod SuccessorAt
pub mod Tests
