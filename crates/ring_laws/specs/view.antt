pub mod Held
pub mod Readings
pub mod Expansions
pub mod Writes
