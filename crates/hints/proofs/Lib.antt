pub mod Parts
pub mod Listing
pub mod Through
pub mod Inducting
