pub mod Pieces
pub mod Nearest
pub mod Grammar
pub mod Value
pub mod Line
pub mod Export
pub mod Steps
