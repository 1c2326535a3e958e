-- Names that crates above use.
pub use Rattle.book_cli.specs.view.Begun
pub use Rattle.book_cli.specs.view.CommandMatches
pub mod Report
pub mod Values
pub mod Outcomes
pub mod CommandLines
pub mod view
