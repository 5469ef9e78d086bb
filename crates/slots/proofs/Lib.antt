pub mod Looking
pub mod Large
pub mod Holding
pub mod Numbers
