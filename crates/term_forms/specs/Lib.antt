-- Names that crates above use.
pub use Rattle.term_forms.specs.view.CountedView
pub use Rattle.term_forms.specs.view.ClauseCode
pub use Rattle.term_forms.specs.view.TranslationView
pub mod Names
pub mod Macros
pub mod Translation
pub mod Outcomes
pub mod Words
pub mod Bindings
pub mod Heads
pub mod Shapes
pub mod Clauses
pub mod Lets
pub mod TranslationLaws
pub mod Printing
pub mod view
