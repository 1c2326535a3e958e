pub mod Streams
pub mod Failures
