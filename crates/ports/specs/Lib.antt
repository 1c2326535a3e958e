pub mod Causes
pub mod Streams
pub mod ReadAll
pub mod Calls
pub mod InMemory
