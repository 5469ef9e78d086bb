pub mod Restart
pub mod Gateway
