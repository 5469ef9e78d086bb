pub mod Blank
pub mod View
pub mod Ruled
pub mod Places
pub mod Sound
pub mod Small
pub mod Measured
