-- Names that crates above use.
pub use Rattle.ring_laws.specs.view.Held
pub use Rattle.ring_laws.specs.view.Readings
pub use Rattle.ring_laws.specs.view.Expansions
pub mod Expressions
pub mod FormalSums
pub mod Polynomials
pub mod Limits
pub mod Laws
pub mod view
