pub mod Answers
pub mod Codes
pub mod Rows
pub mod Places
pub mod Trailer
pub mod Stands
pub mod Written
