pub mod Extras
pub mod Made
pub mod Refine
