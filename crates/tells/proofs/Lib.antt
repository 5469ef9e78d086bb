pub mod Joined
pub mod Longest
pub mod Widths
pub mod Spaced
pub mod ToldBack
