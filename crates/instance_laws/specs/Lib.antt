-- Names that crates above use.
pub mod Closed
pub mod Laws
