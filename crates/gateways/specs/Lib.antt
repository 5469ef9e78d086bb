pub mod Gateway
