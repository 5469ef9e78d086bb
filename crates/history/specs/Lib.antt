pub mod Entry
pub mod Scan
pub mod History
