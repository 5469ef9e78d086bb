pub mod Gateway
pub mod Keep
pub mod Laid
pub mod Made
pub mod Placed
pub mod Restarts
pub mod Typed
