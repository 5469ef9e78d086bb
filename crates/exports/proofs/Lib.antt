pub mod Edge
pub mod Judged
pub mod Demand
pub mod Ceiling
pub mod AnyState
pub mod Typed
pub mod Saved
pub mod NoNan
