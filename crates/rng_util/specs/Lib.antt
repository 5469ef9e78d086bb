pub mod SplitMix
pub mod Draws
pub mod Gen
pub mod Many
pub mod Calls
