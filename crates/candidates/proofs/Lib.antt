pub mod Lists
pub mod Passed
pub mod Draws
pub mod Count
