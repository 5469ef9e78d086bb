pub mod Gateway
pub mod Typed
