pub mod Axes
pub mod Gathered
pub mod Meaning
pub mod Sweep
