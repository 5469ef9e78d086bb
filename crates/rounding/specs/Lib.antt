pub mod Clamp
pub mod Floor
pub mod Powers
pub mod Round
pub mod Table
