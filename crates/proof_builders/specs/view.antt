pub mod Finders
