pub mod File
pub mod Read
