pub mod Words
pub mod Fields
pub mod Hex
pub mod Reads
pub mod Commands
