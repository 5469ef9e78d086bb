pub mod Lines
pub mod Number
