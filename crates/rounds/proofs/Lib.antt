pub mod records
