pub mod Arguments
pub mod Calling
pub mod Lengths
pub mod Numbers
