pub mod Begun
pub mod CommandMatches
