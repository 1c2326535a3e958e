pub mod Codes
pub mod EntryLists
pub mod Indexes
