pub mod Internal
pub mod Ladders
pub mod PlaceLaws
pub mod Settings
pub mod Steps
pub mod Strides
pub mod Valid
