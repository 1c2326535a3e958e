pub mod Halts
pub mod Origins
