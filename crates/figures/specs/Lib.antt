pub mod Evolution
pub mod Ladder
pub mod Leaves
pub mod Midpoint
pub mod Sweep
