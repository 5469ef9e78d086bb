pub mod Inner
pub mod Rungs
pub mod Search
pub mod Table
