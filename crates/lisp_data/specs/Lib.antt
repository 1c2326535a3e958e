-- Names that crates above use.
pub use Rattle.lisp_data.specs.view.Codes
pub use Rattle.lisp_data.specs.view.ValueView
pub use Rattle.lisp_data.specs.view.FormView
pub mod Numbers
pub mod Atoms
pub mod view
pub mod SymbolText
pub mod Values
pub mod Datum
pub mod Details
pub mod RefusalCodes
