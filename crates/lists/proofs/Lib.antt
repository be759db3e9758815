pub mod search
pub mod rounds
pub mod numbering
