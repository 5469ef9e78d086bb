pub mod Appending
pub mod Chunks
pub mod HexDigits
pub mod Padded
