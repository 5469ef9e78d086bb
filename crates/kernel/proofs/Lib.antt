pub mod Examples
pub mod Within
pub mod Small
pub mod Fit
pub mod Kernel
pub mod Link
pub mod Drawn
pub mod Ceiling
