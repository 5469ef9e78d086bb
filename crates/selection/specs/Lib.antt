pub mod Select
pub mod Best
pub mod Size
pub mod Records
pub mod Paper
