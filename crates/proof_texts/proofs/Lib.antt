pub mod ItemLemmas
pub mod PartLemmas
pub mod StepLemmas
pub mod ReadLemmas
pub mod PrintLemmas
pub mod AgainLemmas
pub mod SyntaxWords
