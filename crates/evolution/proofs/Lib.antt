pub mod Free
pub mod Apart
pub mod Draws
pub mod Trials
pub mod Ceiling
pub mod Paper
pub mod Midpoint
pub mod Same
