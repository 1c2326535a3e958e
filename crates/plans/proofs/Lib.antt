pub mod EntriesSound
pub mod ProvedHold
