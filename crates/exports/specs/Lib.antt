pub mod Calls
pub mod Program
pub mod Ceiling
pub mod Saved
