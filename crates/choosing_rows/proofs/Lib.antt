pub mod Reading
pub mod GroupAnswers
pub mod Offered
pub mod OpenRows
pub mod RowAnswers
pub mod AllRows
pub mod BlankRows
pub mod SheetAnswers
