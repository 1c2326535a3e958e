pub mod NumberedNames
pub mod NumberedLists
