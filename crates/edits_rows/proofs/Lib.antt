pub mod FirstNot
pub mod Judging
pub mod Marks
pub mod Meeting
pub mod OneMore
pub mod RowCodes
