pub mod CountedView
pub mod ClauseCode
pub mod TranslationView
