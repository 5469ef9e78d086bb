pub mod Meaning
pub mod Opened
