pub mod Ladder
pub mod Midpoint
pub mod Sweep
pub mod Table
