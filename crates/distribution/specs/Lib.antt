pub mod Dims
pub mod Good
pub mod Refusals
pub mod Validate
