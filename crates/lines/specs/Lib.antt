pub mod History
pub mod Kept
pub mod Hearing
