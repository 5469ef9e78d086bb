pub mod Dims
pub mod Settled
