pub mod Rows
pub mod Kinds
pub mod Opened
pub mod Ladder
pub mod Typed
