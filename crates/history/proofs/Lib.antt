pub mod Places
pub mod Putting
pub mod Scans
pub mod Meaning
