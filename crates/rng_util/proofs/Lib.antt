pub mod Few
pub mod Units
pub mod Parts
