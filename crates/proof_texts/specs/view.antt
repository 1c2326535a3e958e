pub mod ErrorView
