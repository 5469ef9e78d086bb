pub mod Bounds
pub mod FromInternal
pub mod Places
pub mod Random
pub mod ToInternal
